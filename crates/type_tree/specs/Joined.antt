-- docs/FORMAT.md, "The command's text": texts one behind another, with something between two.
use Rattle.std.specs.Prelude.{ℕ, Bool, List, [], ◌∷◌, ◌++◌, if◌then◌else◌}
use Rattle.std.specs.List.{flat_map}

-- with it before each
unfoldable pub more : {X : Type 0} → List ℕ → (X → List ℕ) → List X → List ℕ
more between f xs = flat_map (λ x. between ++ f x) xs

unfoldable pub joined : {X : Type 0} → List ℕ → (X → List ℕ) → List X → List ℕ
joined between f [] = []
joined between f (x ∷ xs) = f x ++ more between f xs

-- behind others, or not
abbrev pub placed : {X : Type 0} → Bool → List ℕ → (X → List ℕ) → List X → List ℕ
placed follows between f xs = if follows then more between f xs else joined between f xs

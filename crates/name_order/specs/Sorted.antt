-- docs/FORMAT.md, "Name index". A list in order, by a test of what goes first.
use Rattle.std.specs.Prelude.{ℕ, Bool, List, [], ◌∷◌, if◌then◌else◌}

module _ (first : ℕ → ℕ → Bool) where
  -- behind all that go before it
  unfoldable pub placed : ℕ → List ℕ → List ℕ
  placed x [] = x ∷ []
  placed x (y ∷ ys) = if first y x then y ∷ placed x ys else x ∷ y ∷ ys

  unfoldable pub in_order : List ℕ → List ℕ
  in_order [] = []
  in_order (x ∷ xs) = placed x (in_order xs)

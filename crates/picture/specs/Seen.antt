-- docs/FORMAT.md, "The command's text": what a terminal shows of text, character by character.
use Rattle.std.specs.Prelude.{ℕ, ◌≡◌, nat_le, true, List, [], ◌∷◌, ◌++◌, codes}
use Rattle.std.specs.List.{list_all}

-- no colour
abbrev pub none : List ℕ
none = codes "0"

-- from a colour on, what is shown of a text, each character in the colour that is in force there, and the colour behind it
pub data Shows : List ℕ → List ℕ → List (ℕ × List ℕ) → List ℕ → Type 0 where
  nothing : (c : List ℕ) → Shows c [] [] c
  character : (c d : List ℕ) (x : ℕ) (text : List ℕ) (seen : List (ℕ × List ℕ)) → (x ≡ 27 → ⊥) → Shows c text seen d → Shows c (x ∷ text) ((x, c) ∷ seen) d
  turn : (c d to : List ℕ) (text : List ℕ) (seen : List (ℕ × List ℕ)) → list_all (λ x. nat_le x 59) to ≡ true → Shows to text seen d
      → Shows c (27 ∷ codes "[" ++ (to ++ (codes "m" ++ text))) seen d

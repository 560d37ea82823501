-- docs/FORMAT.md, "Refusals": what an answer to a number means.
use Rattle.std.specs.Prelude.{ℕ, ◌≤◌, ◌≡◌, List, ◌∷◌, ◌++◌, Result, Ok, Err, length}
use Rattle.refusal.specs.declared.Refusal.{Refusal}
use Rattle.refusal.specs.declared.Refusal.TheVariants.{NoSuchNumber}

-- the record before which so many stand; past the last 14, with how many there are and the number
pub record IsNumbered {A : Type 0} (all : List A) (number : ℕ) (answer : Result A Refusal) : Type 0 where
  pub shown : (before behind : List A) (x : A) → all ≡ before ++ (x ∷ behind) → length before ≡ number → answer ≡ Ok x
  pub past : length all ≤ number → answer ≡ Err (NoSuchNumber (length all) number)

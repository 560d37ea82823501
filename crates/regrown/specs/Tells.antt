-- docs/FORMAT.md, "Fit records". What a step tells, by what a record tells.
use Rattle.std.specs.Prelude.{ℕ, ◌≡◌, List, Option, Some, None, Result, Ok, Err}
use Rattle.std.specs.Borrow.{Bor}
use Rattle.refusal.specs.Refusal.{figures_of}
use Rattle.refusal.specs.declared.Refusal.{Refusal}
use Rattle.walk.specs.declared.Stepped.{Stepped}
use Rattle.regrown.specs.Regrown.{Tells, Entry, Refused, End}

module _ {R S : Type 0} (length_of : R → ℕ) (told : R → S) where
  abbrev pub by_answer : ℕ → Option (Result R Refusal) → Tells S
  by_answer next None = End next
  by_answer next (Some (Ok r)) = Entry (told r) (length_of r) next
  by_answer next (Some (Err why)) = Refused (figures_of why) next

  abbrev pub tells : Stepped R → Tells S
  tells t = by_answer t.cursor.at t.answer

-- an entry is read as a record that tells what is meant
pub record ReadsBack {R S : Type 0} (read : Bor (List ℕ) → Result R Refusal) (told : R → S) (e : Bor (List ℕ)) (meant : S) : Type 0 where
  pub back : R
  pub is : read e ≡ Ok back
  pub tells : told back ≡ meant

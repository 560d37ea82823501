-- docs/FORMAT.md, "Name index": what a call tells of an answer that halving gives.
use Rattle.std.specs.Prelude.{ℕ, List, Result}
use Rattle.refusal.specs.declared.Refusal.{Refusal}
use Rattle.told.specs.Told.{Tells, number_told}

-- an answer of which this holds is told
pub record TellsOf (holds : Result ℕ Refusal → Type 0) (status : ℕ) (answer : List ℕ) : Type 0 where
  pub found : Result ℕ Refusal
  pub is : holds found
  pub tells : Tells (number_told found) status answer

-- docs/FORMAT.md, "Walking". What the theorems of the bounded walk say.
use Rattle.std.specs.Prelude.{ℕ, ◌<◌, ◌≤◌, ◌≡◌, true, List, Some, Ok, length}
use Rattle.entry.specs.declared.WalkEnd.TheVariants.{OutOfSteps}
use Rattle.entry.specs.Entry.{claim_at}
use Rattle.entry.specs.Walk.{stands, steps_from, steps}
use Rattle.entry.specs.Bounded.{end_after}

-- the walk leaves out no step: it is out of steps only where it made all that were allowed, and the whole walk never is
pub record AllSteps : Type 0 where
  pub allowed : (s : List ℕ) (at allowed : ℕ) → end_after s at (steps_from s at allowed) ≡ Ok OutOfSteps → length (steps_from s at allowed) ≡ allowed
  pub whole : (s : List ℕ) → end_after s 0 (steps s) ≡ Ok OutOfSteps → ⊥

-- as many steps as there are bytes are enough
abbrev pub StepsEnough : Type 0
StepsEnough = (s : List ℕ) (allowed : ℕ) → length s ≤ allowed → steps_from s 0 allowed ≡ steps s

-- a step that does not move, before the end, meets a claim of 0
abbrev pub ZeroClaims : Type 0
ZeroClaims = (s : List ℕ) (at : ℕ) → at < length s → stands s at ≡ true → (claim_at s at).size ≡ Some (Ok 0)

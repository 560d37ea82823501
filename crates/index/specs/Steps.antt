-- docs/FORMAT.md, "Index". The same, by the steps of the walk: the walk's own definition of them, and what a step gives.
use Rattle.std.specs.Borrow.{Bor}
use Rattle.std.specs.Prelude.{ℕ, Result, ◌≡◌, Bool, true, false, List, filter, Some, None, Ok, Err}
use Rattle.std.specs.List.{list_any}
use Rattle.std.specs.declared.option.Option.{Option}
use Rattle.refusal.specs.declared.Refusal.{Refusal}
use Rattle.entry.specs.Walk.{stands, steps}
use Rattle.walk.specs.Step.{step_at}
use Rattle.walk.specs.Pieces.{pieces}
use Rattle.index.specs.Index.{starts, stopped}

abbrev pub is_record : {R : Type 0} → Option (Result R Refusal) → Bool
is_record None = false
is_record (Some (Ok r)) = true
is_record (Some (Err why)) = false

-- a step from here gives a record
abbrev pub gives : {R : Type 0} → (Bor (List ℕ) → Result R Refusal) → Bor (List ℕ) → ℕ → Bool
gives read s at = is_record (step_at read s at).answer

pub record BySteps {R : Type 0} (read : Bor (List ℕ) → Result R Refusal) : Type 0 where
  pub starts_are : (s : Bor (List ℕ)) → starts (pieces read s) ≡ filter (gives read s) (steps s.now)
  pub stopped_is : (s : Bor (List ℕ)) → stopped (pieces read s) ≡ list_any (stands s.now) (steps s.now)

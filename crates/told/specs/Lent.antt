-- docs/FORMAT.md, "Refusals", and bindings/c/vindaskot.h, "How a call answers": what lent slots, GUID bytes and places of a path hold after a call. What was found is
-- written over them; a refusal, and a step at the end, leave them as they were.
use Rattle.std.specs.Prelude.{ℕ, ◌≡◌, List, Some, None, Ok, Err}
use Rattle.refusal.specs.declared.Refusal.{Refusal}
use Rattle.told.specs.Slots.{slots_after, step_after}

-- where a record of some kind is told in slots like these
pub record LentAfter {A : Type 0} (slots : A → List ℕ) (old : List ℕ) : Type 0 where
  pub found : (r : A) → slots_after slots (Ok r) old ≡ slots r
  pub refused : (why : Refusal) → slots_after slots (Err why) old ≡ old
  pub step_found : (r : A) → step_after slots (Some (Ok r)) old ≡ slots r
  pub step_refused : (why : Refusal) → step_after slots (Some (Err why)) old ≡ old
  pub step_at_end : step_after slots None old ≡ old

abbrev pub LentKept : Type 0 → Type 0
LentKept A = (slots : A → List ℕ) (old : List ℕ) → LentAfter slots old

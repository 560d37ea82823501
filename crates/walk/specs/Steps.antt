-- docs/FORMAT.md, "Walking": what a step gives, by the bytes.
use Rattle.std.specs.Prelude.{ℕ, ◌+◌, ◌-◌, ◌<◌, ◌≤◌, List, Option, Some, None, Result, Err, length}
use Rattle.std.specs.Borrow.{Bor}
use Rattle.le.specs.Le.{le4}
use Rattle.part.specs.Slice.{part}
use Rattle.refusal.specs.Refusal.{limit}
use Rattle.refusal.specs.declared.Refusal.{Refusal}
use Rattle.refusal.specs.declared.Refusal.TheVariants.{TooShort, EntryLengthMismatch, TooLarge}
use Rattle.walk.specs.Step.{step_at}

-- `header` is how long the header is, `read` what an entry's own bytes give
module _ {R : Type 0} (header : ℕ) (read : Bor (List ℕ) → Result R Refusal) where
  -- the answer of a step and the cursor after it, each with what is known there; of the conditions exactly one holds
  pub data IsStep (s : Bor (List ℕ)) (at : ℕ) : Option (Result R Refusal) → ℕ → Type 0 where
    ended : length s.now ≤ at → IsStep s at None at
    large : at < length s.now → limit < length s.now → IsStep s at (Some (Err (TooLarge (length s.now)))) (length s.now)
    short : at < length s.now → length s.now ≤ limit → length s.now - at < 4 → IsStep s at (Some (Err (TooShort (at + 4) (length s.now)))) (length s.now)
    beyond : at < length s.now → length s.now ≤ limit → 4 ≤ length s.now - at → length s.now - at < le4 s.now at
        → IsStep s at (Some (Err (EntryLengthMismatch (le4 s.now at) (length s.now - at)))) (length s.now)
    -- a claim of 0 is below every header, and the cursor does not move
    below : at < length s.now → length s.now ≤ limit → 4 ≤ length s.now - at → le4 s.now at ≤ length s.now - at → le4 s.now at < header
        → IsStep s at (Some (Err (TooShort header (le4 s.now at)))) (at + le4 s.now at)
    own : at < length s.now → length s.now ≤ limit → 4 ≤ length s.now - at → le4 s.now at ≤ length s.now - at → header ≤ le4 s.now at
        → IsStep s at (Some (read (part s at (le4 s.now at)))) (at + le4 s.now at)

  abbrev pub StepsMeant : Type 0
  StepsMeant = (s : Bor (List ℕ)) (at : ℕ) → IsStep s at (step_at read s at).answer (step_at read s at).cursor.at

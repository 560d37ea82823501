-- docs/FORMAT.md, "Walking": what a step meets, by the bytes.
use Rattle.std.specs.Prelude.{ℕ, ◌+◌, ◌-◌, ◌<◌, ◌≤◌, List, Some, None, Ok, Err, length}
use Rattle.le.specs.Le.{le4}
use Rattle.refusal.specs.Refusal.{limit}
use Rattle.refusal.specs.declared.Refusal.TheVariants.{TooShort, EntryLengthMismatch, TooLarge}
use Rattle.entry.specs.declared.Claimed.{Claimed}
use Rattle.entry.specs.Entry.{claim_at}

-- the five answers of a step's own checks, each with what is known there and the cursor after it; of the conditions exactly one holds
pub data Claims (s : List ℕ) (at : ℕ) : Claimed → Type 0 where
  -- at or past the end: finished, and the cursor is unmoved
  ended : length s ≤ at → Claims s at (record { size = None; next = at })
  -- 5, and the cursor goes to the end
  large : at < length s → limit < length s → Claims s at (record { size = Some (Err (TooLarge (length s))); next = length s })
  -- 2 for fewer than 4 bytes left, likewise
  short : at < length s → length s ≤ limit → length s - at < 4 → Claims s at (record { size = Some (Err (TooShort (at + 4) (length s))); next = length s })
  -- 3 for a claim beyond the data, likewise
  beyond : at < length s → length s ≤ limit → 4 ≤ length s - at → length s - at < le4 s at → Claims s at (record { size = Some (Err (EntryLengthMismatch (le4 s at) (length s - at))); next = length s })
  -- the claim, and the cursor moves by it
  entry : at < length s → length s ≤ limit → 4 ≤ length s - at → le4 s at ≤ length s - at → Claims s at (record { size = Some (Ok (le4 s at)); next = at + le4 s at })

abbrev pub StepClaims : Type 0
StepClaims = (s : List ℕ) (at : ℕ) → Claims s at (claim_at s at)

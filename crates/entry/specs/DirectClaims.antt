-- docs/FORMAT.md, "Direct reading": what is claimed for an entry at the start of some bytes, by the bytes.
use Rattle.std.specs.Prelude.{ℕ, ◌<◌, ◌≤◌, List, Result, Ok, Err, length}
use Rattle.le.specs.Le.{le4}
use Rattle.refusal.specs.Refusal.{limit}
use Rattle.refusal.specs.declared.Refusal.{Refusal}
use Rattle.refusal.specs.declared.Refusal.TheVariants.{TooShort, EntryLengthMismatch, ClaimBelowHeader, TooLarge}
use Rattle.entry.specs.Entry.{claim_of}

-- 5, 2, 3 and 4, each where those before it do not hold, or the claim; of the conditions exactly one holds
pub data IsClaimed (header : ℕ) (s : List ℕ) : Result ℕ Refusal → Type 0 where
  large : limit < length s → IsClaimed header s (Err (TooLarge (length s)))
  short : length s ≤ limit → length s < header → IsClaimed header s (Err (TooShort header (length s)))
  beyond : length s ≤ limit → header ≤ length s → length s < le4 s 0 → IsClaimed header s (Err (EntryLengthMismatch (le4 s 0) (length s)))
  below : length s ≤ limit → header ≤ length s → le4 s 0 ≤ length s → le4 s 0 < header → IsClaimed header s (Err (ClaimBelowHeader header (le4 s 0)))
  whole : length s ≤ limit → header ≤ length s → le4 s 0 ≤ length s → header ≤ le4 s 0 → IsClaimed header s (Ok (le4 s 0))

abbrev pub DirectClaims : Type 0
DirectClaims = (header : ℕ) (s : List ℕ) → IsClaimed header s (claim_of header s)

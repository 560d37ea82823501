-- docs/FORMAT.md, "Direct reading": what an entry at the start of some bytes gives, by the bytes.
use Rattle.std.specs.Prelude.{ℕ, ◌<◌, ◌≤◌, List, Result, Err, length}
use Rattle.std.specs.Borrow.{Bor}
use Rattle.le.specs.Le.{le4}
use Rattle.part.specs.Slice.{part}
use Rattle.refusal.specs.Refusal.{limit}
use Rattle.refusal.specs.declared.Refusal.{Refusal}
use Rattle.refusal.specs.declared.Refusal.TheVariants.{TooShort, EntryLengthMismatch, ClaimBelowHeader, TooLarge}
use Rattle.walk.specs.Step.{parse_of}

-- `header` is how long the header is, `read` what an entry's own bytes give
module _ {R : Type 0} (header : ℕ) (read : Bor (List ℕ) → Result R Refusal) where
  -- 5, 2, 3 and 4, each where those before it do not hold; else what the bytes of its claim give. Of the conditions exactly one holds
  pub data IsParsed (s : Bor (List ℕ)) : Result R Refusal → Type 0 where
    large : limit < length s.now → IsParsed s (Err (TooLarge (length s.now)))
    short : length s.now ≤ limit → length s.now < header → IsParsed s (Err (TooShort header (length s.now)))
    beyond : length s.now ≤ limit → header ≤ length s.now → length s.now < le4 s.now 0 → IsParsed s (Err (EntryLengthMismatch (le4 s.now 0) (length s.now)))
    below : length s.now ≤ limit → header ≤ length s.now → le4 s.now 0 ≤ length s.now → le4 s.now 0 < header → IsParsed s (Err (ClaimBelowHeader header (le4 s.now 0)))
    own : length s.now ≤ limit → header ≤ length s.now → le4 s.now 0 ≤ length s.now → header ≤ le4 s.now 0 → IsParsed s (read (part s 0 (le4 s.now 0)))

  abbrev pub ParsesMeant : Type 0
  ParsesMeant = (s : Bor (List ℕ)) → IsParsed s (parse_of header read s)

-- An entry begins with its length in four bytes, which it claims. docs/FORMAT.md, "Walking" and "Direct reading".
use Rattle.std.specs.Prelude.{ℕ, ◌+◌, ◌-◌, List, Option, Some, None, Result, Ok, Err, ltb, leb, length, if◌then◌else◌}
use Rattle.le.specs.Le.{le4}
use Rattle.refusal.specs.Refusal.{limit}
use Rattle.refusal.specs.declared.Refusal.{Refusal}
use Rattle.refusal.specs.declared.Refusal.TheVariants.{TooShort, EntryLengthMismatch, ClaimBelowHeader, TooLarge}
use Rattle.entry.specs.declared.Claimed.{Claimed}

abbrev pub claimed : Option (Result ℕ Refusal) → ℕ → Claimed
claimed size next = record { size = size; next = next }

-- the step's own checks, and where the cursor goes: at or past the end it is unmoved, a refusal sends it to the end, an entry moves it by its claim
unfoldable pub claim_at : List ℕ → ℕ → Claimed
claim_at s at =
    if leb (length s) at then claimed None at
    else if ltb limit (length s) then claimed (Some (Err (TooLarge (length s)))) (length s)
    else if ltb (length s - at) 4 then claimed (Some (Err (TooShort (at + 4) (length s)))) (length s)
    else if ltb (length s - at) (le4 s at) then claimed (Some (Err (EntryLengthMismatch (le4 s at) (length s - at)))) (length s)
    else claimed (Some (Ok (le4 s at))) (at + le4 s at)

-- a direct parse, for a header of so many bytes: 5, 2, 3 for a claim beyond the data, 4
unfoldable pub claim_of : ℕ → List ℕ → Result ℕ Refusal
claim_of header s =
    if ltb limit (length s) then Err (TooLarge (length s))
    else if ltb (length s) header then Err (TooShort header (length s))
    else if ltb (length s) (le4 s 0) then Err (EntryLengthMismatch (le4 s 0) (length s))
    else if ltb (le4 s 0) header then Err (ClaimBelowHeader header (le4 s 0))
    else Ok (le4 s 0)

-- docs/FORMAT.md, "Captures". The lines of an upload, and the upload of some lines.
use Rattle.std.specs.Prelude.{ℕ, ◌==◌, List, [], ◌∷◌, ◌++◌, ltb, length, map, Result, Ok, Err, if◌then◌else◌}
use Rattle.std.specs.List.{flat_map, slice_range, slice_split}
use Rattle.hex.specs.Hex.{encode_upper, decode_of}
use Rattle.part.specs.Outcome.{and_then}
use Rattle.refusal.specs.Refusal.{limit}
use Rattle.refusal.specs.declared.Refusal.{Refusal}
use Rattle.refusal.specs.declared.Refusal.TheVariants.{TooLarge, BadHexadecimal}
use Rattle.entry.specs.Entry.{claim_at}
use Rattle.entry.specs.Walk.{stands, steps}
use Rattle.writing.specs.Checks.{entry_checked}

-- where the piece ends that begins at a place: where the step there goes; all that is left, where it stays
abbrev pub end_of : List ℕ → ℕ → ℕ
end_of s at = if stands s at then length s else (claim_at s at).next

abbrev pub piece_at : List ℕ → ℕ → List ℕ
piece_at s at = slice_range s at (end_of s at)

-- the bytes of each piece of an upload
unfoldable pub piece_bytes : List ℕ → List (List ℕ)
piece_bytes s = map (piece_at s) (steps s)

-- bytes in digits, and LF
abbrev pub line : List ℕ → List ℕ
line bytes = encode_upper bytes ++ (10 ∷ [])

unfoldable pub text_of : List (List ℕ) → List ℕ
text_of pieces = flat_map line pieces

-- what splitting writes: 5; 6 is the writer's
unfoldable pub splitting : List ℕ → Result (List ℕ) Refusal
splitting s = if ltb limit (length s) then Err (TooLarge (length s)) else Ok (text_of (piece_bytes s))

-- lines end at LF: what is behind the last, if nothing, is a line of no bytes
abbrev pub lines : List ℕ → List (List ℕ)
lines text = slice_split (λ c. c == 10) text

-- the bytes of a line; where it spells none, 12
abbrev pub spelt : {E : Type 0} → Result (List ℕ) E → Result (List ℕ) Refusal
spelt (Ok bytes) = Ok bytes
spelt (Err why) = Err BadHexadecimal

-- those of some lines, one after another
unfoldable pub joined : List (List ℕ) → Result (List ℕ) Refusal
joined [] = Ok []
joined (l ∷ ls) = and_then (spelt (decode_of l)) (λ bytes. and_then (joined ls) (λ more. Ok (bytes ++ more)))

abbrev pub told_length : Result (List ℕ) Refusal → Result ℕ Refusal
told_length r = and_then r (λ bytes. Ok (length bytes))

-- what joining writes: 12, then 5; 6 is the writer's
unfoldable pub joining : List ℕ → Result (List ℕ) Refusal
joining text = and_then (joined (lines text)) entry_checked

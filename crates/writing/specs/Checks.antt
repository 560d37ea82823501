-- docs/FORMAT.md, "Writing": what writers of entries of every kind refuse.
use Rattle.std.specs.Prelude.{ℕ, ◌≤◌, List, Result, Ok, Err, ltb, length, if◌then◌else◌}
use Rattle.part.specs.Outcome.{and_then}
use Rattle.refusal.specs.Refusal.{limit}
use Rattle.refusal.specs.declared.Refusal.{Refusal}
use Rattle.refusal.specs.declared.Refusal.TheVariants.{TooLong, TooLarge, OutputTooSmall}

-- refusal 7 for a length or count that its 2 bytes do not hold
abbrev pub count_checked : ℕ → Result Unit Refusal
count_checked actual = if ltb 65535 actual then Err (TooLong 65535 actual) else Ok tt

-- for name, type and comment, in order
unfoldable pub strings_checked : List ℕ → List ℕ → List ℕ → Result Unit Refusal
strings_checked name type comment = and_then (count_checked (length name)) (λ _. and_then (count_checked (length type)) (λ _. count_checked (length comment)))

-- strings that fit their 2-byte lengths
pub record IsShort (name type comment : List ℕ) : Type 0 where
  pub name_fits : length name ≤ 65535
  pub type_fits : length type ≤ 65535
  pub comment_fits : length comment ≤ 65535

-- refusal 5 for an entry of so many bytes, if that is too large
abbrev pub size_checked : ℕ → Result Unit Refusal
size_checked size = if ltb limit size then Err (TooLarge size) else Ok tt

unfoldable pub entry_checked : List ℕ → Result (List ℕ) Refusal
entry_checked e = and_then (size_checked (length e)) (λ _. Ok e)

-- refusal 5, then 6, where so many bytes are lent
unfoldable pub room_checked : ℕ → ℕ → Result Unit Refusal
room_checked needed lent = and_then (size_checked needed) (λ _. if ltb lent needed then Err (OutputTooSmall needed lent) else Ok tt)

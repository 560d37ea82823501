-- docs/FORMAT.md, "Data type entries": what is read as a data type, beside the field reader; its array records, by its bytes.
use Rattle.std.specs.Prelude.{ℕ, ◌+◌, ◌*◌, ◌<◌, ◌≤◌, ◌≡◌, List, Ok, Err}
use Rattle.std.specs.Borrow.{Bor}
use Rattle.le.specs.Le.{le2, le4}
use Rattle.refusal.specs.declared.Mode.{Mode}
use Rattle.refusal.specs.declared.Refusal.TheVariants.{NoSuchNumber}
use Rattle.walk.specs.Step.{parse_of}
use Rattle.field.specs.Field.{field_of}
use Rattle.data_type.specs.declared.AdsDataTypeInfo.{AdsDataTypeInfo}
use Rattle.data_type.specs.declared.array.AdsArrayInfo.{AdsArrayInfo}
use Rattle.data_type.specs.Array.{numbered}
use Rattle.data_type.specs.DataType.{type_of}
use Rattle.field.specs.Modes.{strings_end}

-- what this reader accepts the field reader accepts, with the record's field: both take the same bytes for array records, sub-items and tail
abbrev pub TypesAsFields : Type 0
TypesAsFields = (mode : Mode) (s : Bor (List ℕ)) (r : AdsDataTypeInfo) → parse_of 42 (type_of mode) s ≡ Ok r → parse_of 42 (field_of mode) s ≡ Ok r.field

abbrev pub array_at : List ℕ → ℕ → AdsArrayInfo
array_at s at = record { lower_bound = le4 s at; elements = le4 s (at + 4) }

-- the array records stand behind the strings, 8 bytes each: a number below their count in the header is answered by what stands there, and one past it is 14
pub record IsArrays (s : List ℕ) (r : AdsDataTypeInfo) : Type 0 where
  pub told : (k : ℕ) → k < le2 s 38 → numbered r.arrays k ≡ Ok (array_at s (strings_end s + 8 * k))
  pub past : (k : ℕ) → le2 s 38 ≤ k → numbered r.arrays k ≡ Err (NoSuchNumber (le2 s 38) k)

abbrev pub ArraysMeant : Type 0
ArraysMeant = (mode : Mode) (s : Bor (List ℕ)) (r : AdsDataTypeInfo) → parse_of 42 (type_of mode) s ≡ Ok r → IsArrays s.now r

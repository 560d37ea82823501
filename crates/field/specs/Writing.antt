-- docs/FORMAT.md, "Writing": the field writer.
use Rattle.std.specs.Prelude.{ℕ, ◌≤◌, ◌≡◌, Bool, true, List, [], ◌++◌, replicate, Option, Some, None, Result, Ok, length, if◌then◌else◌}
use Rattle.le.specs.Le.{bytes2, bytes4, has}
use Rattle.part.specs.Outcome.{and_then}
use Rattle.refusal.specs.declared.Refusal.{Refusal}
use Rattle.attribute.specs.Block.{block_checked}
use Rattle.writing.specs.Layout.{lengths_bytes, strings_bytes, attributes_bytes, entry_bytes}
use Rattle.writing.specs.Checks.{count_checked, strings_checked, entry_checked, IsShort}
use Rattle.field.specs.Tail.{type_guid_flag, copy_mask_flag, attributes_flag}
use Rattle.field.specs.declared.writer.NewField.{NewField}

abbrev pub flagged : NewField → ℕ → Bool
flagged n bit = has n.flags.0 bit

unfoldable pub numbers_bytes : NewField → List ℕ
numbers_bytes n =
    bytes4 n.version
    ++ (bytes4 n.hash_value
    ++ (bytes4 n.type_hash_value ++ (bytes4 n.size ++ (bytes4 n.offset ++ (bytes4 n.type_id ++ bytes4 n.flags.0)))))

-- the header after the entry length: array and sub-item counts are 0
unfoldable pub header_bytes : NewField → List ℕ
header_bytes n = numbers_bytes n ++ (lengths_bytes n.name.now n.type_name.now n.comment.now ++ (bytes2 0 ++ bytes2 0))

abbrev pub zeros : ℕ → List ℕ
zeros n = replicate n 0

-- an absent GUID is written as zeros
abbrev pub guid_or_zeros : Option (List ℕ) → List ℕ
guid_or_zeros (Some guid) = guid
guid_or_zeros None = zeros 16

unfoldable pub guid_bytes : Bool → Option (List ℕ) → List ℕ
guid_bytes here guid = if here then guid_or_zeros guid else []

-- a copy mask is written as size zeros
unfoldable pub mask_bytes : Bool → ℕ → List ℕ
mask_bytes here size = if here then zeros size else []

-- the flagged sections; methods are never written
unfoldable pub sections_bytes : NewField → List ℕ
sections_bytes n =
    guid_bytes (flagged n type_guid_flag) n.guid
    ++ (mask_bytes (flagged n copy_mask_flag) n.size ++ attributes_bytes (flagged n attributes_flag) n.attributes.count n.attributes.bytes.now)

unfoldable pub field_bytes : NewField → List ℕ
field_bytes n = entry_bytes (header_bytes n ++ (strings_bytes n.name.now n.type_name.now n.comment.now ++ sections_bytes n))

-- attributes that are not flagged, and their count, are not looked at
unfoldable pub attributes_checked : NewField → Result Unit Refusal
attributes_checked n =
    if flagged n attributes_flag then and_then (count_checked n.attributes.count) (λ _. block_checked n.attributes.count n.attributes.bytes)
    else Ok tt

-- refusal 7 for the strings, then for the 2-byte count; 9 for the attributes
unfoldable pub field_checked : NewField → Result Unit Refusal
field_checked n = and_then (strings_checked n.name.now n.type_name.now n.comment.now) (λ _. attributes_checked n)

-- then refusal 5
unfoldable pub field_written : NewField → Result (List ℕ) Refusal
field_written n = and_then (field_checked n) (λ _. entry_checked (field_bytes n))

-- a count and a block of attributes that passed, where they are flagged
pub record HasShort (n : NewField) : Type 0 where
  pub count : flagged n attributes_flag ≡ true → n.attributes.count ≤ 65535
  pub block : flagged n attributes_flag ≡ true → length n.attributes.bytes.now ≤ 33684990

-- and strings
pub record IsSized (n : NewField) : Type 0 where
  pub short : IsShort n.name.now n.type_name.now n.comment.now
  pub attributes : HasShort n

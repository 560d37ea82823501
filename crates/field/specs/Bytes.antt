-- docs/FORMAT.md, "Field entries" and "Writing": the bytes of a field that is written, from the first to the last.
use Rattle.std.specs.Prelude.{ℕ, ◌≡◌, List, [], ◌∷◌, ◌++◌, replicate, Option, Some, None, Ok, length, drop, if◌then◌else◌}
use Rattle.le.specs.Le.{le2, le4, bytes2, has}
use Rattle.field.specs.declared.writer.NewField.{NewField}
use Rattle.field.specs.Told.{IsTyped}
use Rattle.field.specs.Writing.{field_written}

-- a GUID that is absent is 16 zeros
abbrev pub given : Option (List ℕ) → List ℕ
given (Some guid) = guid
given None = replicate 16 0

-- what is flagged: a GUID, a copy mask of as many zeros as the size says, and the attributes behind their count
abbrev pub sections : NewField → List ℕ
sections p =
    (if has p.flags.0 0x0080 then given p.guid else [])
    ++ ((if has p.flags.0 0x0200 then replicate p.size 0 else []) ++ (if has p.flags.0 0x1000 then bytes2 p.attributes.count ++ p.attributes.bytes.now else []))

-- the header has the numbers and the lengths, each at its place; behind it stand the strings, each with an end byte of 0, and the sections
pub record IsInBytes (p : NewField) (bs : List ℕ) : Type 0 where
  pub claim : le4 bs 0 ≡ length bs
  pub version : le4 bs 4 ≡ p.version
  pub hash_value : le4 bs 8 ≡ p.hash_value
  pub type_hash_value : le4 bs 12 ≡ p.type_hash_value
  pub size : le4 bs 16 ≡ p.size
  pub offset : le4 bs 20 ≡ p.offset
  pub type_id : le4 bs 24 ≡ p.type_id
  pub flags : le4 bs 28 ≡ p.flags.0
  pub name_length : le2 bs 32 ≡ length p.name.now
  pub type_name_length : le2 bs 34 ≡ length p.type_name.now
  pub comment_length : le2 bs 36 ≡ length p.comment.now
  pub array_count : le2 bs 38 ≡ 0
  pub sub_item_count : le2 bs 40 ≡ 0
  pub behind : drop 42 bs ≡ p.name.now ++ (0 ∷ (p.type_name.now ++ (0 ∷ (p.comment.now ++ (0 ∷ sections p)))))

abbrev pub FieldsInBytes : Type 0
FieldsInBytes = (p : NewField) (bs : List ℕ) → IsTyped p → field_written p ≡ Ok bs → IsInBytes p bs

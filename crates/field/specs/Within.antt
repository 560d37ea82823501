-- docs/FORMAT.md, "Field entries": what a field that is accepted tells is a number of its header or a part of its entry, with its end byte.
use Rattle.std.specs.Prelude.{ℕ, ◌+◌, ◌≤◌, ◌≡◌, List, Ok, length}
use Rattle.std.specs.Borrow.{Bor}
use Rattle.le.specs.Le.{le2, le4}
use Rattle.part.specs.Slice.{part}
use Rattle.part.specs.End.{IsEnd, rest_at}
use Rattle.refusal.specs.declared.Mode.{Mode}
use Rattle.attribute.specs.declared.AdsAttribute.{AdsAttribute}
use Rattle.attribute.specs.Attribute.{listed, after_listed}
use Rattle.attribute.specs.Inside.{AttributesLie}
use Rattle.field.specs.declared.AdsFieldInfo.{AdsFieldInfo}
use Rattle.field.specs.Field.{field_of}

-- the attributes of a field
abbrev pub shown : AdsFieldInfo → List AdsAttribute
shown r = listed r.attributes.bytes r.attributes.count

-- a header of 42 bytes with seven numbers and three lengths, three strings with an end byte each, and as many attributes as are counted
pub record IsWithin (e : Bor (List ℕ)) (r : AdsFieldInfo) : Type 0 where
  pub long : r.length ≡ length e.now
  pub version : r.version ≡ le4 e.now 4
  pub hash_value : r.hash_value ≡ le4 e.now 8
  pub type_hash_value : r.type_hash_value ≡ le4 e.now 12
  pub size : r.size ≡ le4 e.now 16
  pub offset : r.offset ≡ le4 e.now 20
  pub type_id : r.type_id ≡ le4 e.now 24
  pub flags : r.flags.0 ≡ le4 e.now 28
  pub name_length : length r.name.now ≡ le2 e.now 32
  pub type_name_length : length r.type_name.now ≡ le2 e.now 34
  pub comment_length : length r.comment.now ≡ le2 e.now 36
  pub name : r.name ≡ part e 42 (length r.name.now)
  pub type_name : r.type_name ≡ part e (43 + length r.name.now) (length r.type_name.now)
  pub comment : r.comment ≡ part e (44 + length r.name.now + length r.type_name.now) (length r.comment.now)
  pub room : 45 + length r.name.now + length r.type_name.now + length r.comment.now ≤ length e.now
  -- they are read of the entry's last bytes, and lie there one after another
  pub attribute_bytes : IsEnd e r.attributes.bytes
  pub attributes : AttributesLie e (rest_at e r.attributes.bytes) (shown r) (rest_at e (after_listed r.attributes.bytes r.attributes.count))
  pub counted : length (shown r) ≡ r.attributes.count

abbrev pub FieldsWithin : Type 0
FieldsWithin = (mode : Mode) (e : Bor (List ℕ)) (r : AdsFieldInfo) → field_of mode e ≡ Ok r → IsWithin e r

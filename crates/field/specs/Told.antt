-- docs/FORMAT.md, "Fit records": what a field tells, wherever it lies, and what is meant by one that is written.
use Rattle.std.specs.Prelude.{ℕ, ◌<◌, ◌≡◌, false, List, Option, Some, None, is_some, length}
use Rattle.std.specs.Borrow.{Bor}
use Rattle.le.specs.Le.{has}
use Rattle.refusal.specs.declared.Mode.{Mode}
use Rattle.walk.specs.Mapped.{map_ok}
use Rattle.flags.specs.declared.type_flags.AdsTypeFlags.{AdsTypeFlags}
use Rattle.attribute.specs.Attribute.{listed}
use Rattle.attribute.specs.Told as attributes
use Rattle.field.specs.declared.AdsFieldInfo.{AdsFieldInfo}
use Rattle.field.specs.declared.writer.NewField.{NewField}
use Rattle.field.specs.Field.{field_of}

-- 16 bytes, if any
abbrev pub IsGuid : Option (List ℕ) → Type 0
IsGuid (Some guid) = length guid ≡ 16
IsGuid None = Unit {0}

-- what the types of a field to be written say: each number fits its width, and a GUID has 16 bytes
pub record IsTyped (p : NewField) : Type 0 where
  pub version : p.version < 4294967296
  pub hash_value : p.hash_value < 4294967296
  pub type_hash_value : p.type_hash_value < 4294967296
  pub size : p.size < 4294967296
  pub offset : p.offset < 4294967296
  pub type_id : p.type_id < 4294967296
  pub flags : p.flags.0 < 4294967296
  pub guid : IsGuid p.guid

-- all that a field tells: no part of where it stands
pub record Told : Type 0 where
  pub version : ℕ
  pub hash_value : ℕ
  pub type_hash_value : ℕ
  pub size : ℕ
  pub offset : ℕ
  pub type_id : ℕ
  pub flags : AdsTypeFlags
  pub name : List ℕ
  pub type_name : List ℕ
  pub comment : List ℕ
  pub guid : Option (List ℕ)
  pub attributes : List attributes.Told

abbrev pub told_of : AdsFieldInfo → Told
told_of r =
    record {
      version = r.version;
      hash_value = r.hash_value;
      type_hash_value = r.type_hash_value;
      size = r.size;
      offset = r.offset;
      type_id = r.type_id;
      flags = r.flags;
      name = r.name.now;
      type_name = r.type_name.now;
      comment = r.comment.now;
      guid = r.guid;
      attributes = attributes.told (listed r.attributes.bytes r.attributes.count);
    }

-- what a field that is written means; the bytes that its entry is grown by are not told
abbrev pub meant : NewField → List ℕ → Told
meant p extra =
    record {
      version = p.version;
      hash_value = p.hash_value;
      type_hash_value = p.type_hash_value;
      size = p.size;
      offset = p.offset;
      type_id = p.type_id;
      flags = p.flags;
      name = p.name.now;
      type_name = p.type_name.now;
      comment = p.comment.now;
      guid = p.guid;
      attributes = attributes.told (listed p.attributes.bytes p.attributes.count);
    }

-- docs/FORMAT.md, "Fit records": the method flag is clear, the GUID present exactly if flagged, and the attribute block empty and its count 0 unless flagged
pub record Agrees (p : NewField) : Type 0 where
  pub no_methods : has p.flags.0 0x0800 ≡ false
  pub guid_agrees : is_some p.guid ≡ has p.flags.0 0x0080
  pub no_block : has p.flags.0 0x1000 ≡ false → length p.attributes.bytes.now ≡ 0
  pub no_count : has p.flags.0 0x1000 ≡ false → p.attributes.count ≡ 0

-- what a field tells does not depend on where it lies
abbrev pub FieldsAnywhere : Type 0
FieldsAnywhere = (mode : Mode) (e f : Bor (List ℕ)) → e.now ≡ f.now → map_ok told_of (field_of mode e) ≡ map_ok told_of (field_of mode f)

-- docs/FORMAT.md, "Fit records": the theorems of fields that are written.
use Rattle.std.specs.Prelude.{ℕ, ◌≤◌, ◌≡◌, false, is_some, List, Ok, length, take}
use Rattle.std.specs.Borrow.{Bor}
use Rattle.le.specs.Le.{has}
use Rattle.refusal.specs.Refusal.{limit}
use Rattle.refusal.specs.declared.Mode.{Mode}
use Rattle.walk.specs.Step.{step_at}
use Rattle.walk.specs.Theorems.{cursor_of}
use Rattle.writing.specs.Writing.{Writes}
use Rattle.regrown.specs.Regrown.{grown, ComeBack}
use Rattle.regrown.specs.ShutsOut.{ShutsOut}
use Rattle.regrown.specs.Tells.{tells}
use Rattle.attribute.specs.Attribute.{listed}
use Rattle.attribute.specs.Told as attributes
use Rattle.attribute.specs.Named.{told_named, named_told}
use Rattle.field.specs.declared.AdsFieldInfo.{AdsFieldInfo}
use Rattle.field.specs.declared.writer.NewField.{NewField}
use Rattle.field.specs.Field.{field_of}
use Rattle.field.specs.Told.{told_of, meant, IsTyped}
use Rattle.field.specs.Writing.{field_bytes, field_written}
use Rattle.fields_regrown.specs.Kind.{IsFit}

-- fit fields, written one after another, come back from the walk, in whatever mode
abbrev pub FieldsComeBack : Type 0
FieldsComeBack = (mode : Mode) → ComeBack IsFit field_bytes meant (step_at (field_of mode)) cursor_of (tells (λ (r : AdsFieldInfo). r.length) told_of)

-- a step that never gives a record, and one that gives a record wherever it is asked
abbrev pub FieldsShutOut : Type 0
FieldsShutOut = ShutsOut IsFit field_bytes meant cursor_of (tells (λ (r : AdsFieldInfo). r.length) told_of)

-- where `write` answers that it wrote so many bytes of a field whose method flag is clear, whose GUID is given exactly if it is flagged, and whose block is empty
-- and its count 0 unless flagged, the field is fit, and these bytes are those that come back
pub record IsReached (p : NewField) (count : ℕ) (new : List ℕ) : Type 0 where
  pub fit : IsFit p
  pub bytes : take count new ≡ field_bytes p

abbrev pub WrittenFieldsFit : Type 0
WrittenFieldsFit = (p : NewField) (old new : List ℕ) (count : ℕ) → IsTyped p → has p.flags.0 0x0800 ≡ false → is_some p.guid ≡ has p.flags.0 0x0080
    → (has p.flags.0 0x1000 ≡ false → (length p.attributes.bytes.now ≡ 0) × (p.attributes.count ≡ 0)) → Writes (field_written p) old new (Ok count) → IsReached p count new

-- nothing that is written is left out of what is meant: two fit fields that mean the same are written as the same bytes
abbrev pub FieldsFaithful : Type 0
FieldsFaithful = (p q : NewField) (extra other : List ℕ) → IsFit p → IsFit q → meant p extra ≡ meant q other → field_bytes p ≡ field_bytes q

-- of an entry that is read, asked by an attribute's name
pub record IsNamed (mode : Mode) (p : NewField) (e : Bor (List ℕ)) (name : List ℕ) : Type 0 where
  pub back : AdsFieldInfo
  pub is : field_of mode e ≡ Ok back
  pub tells : told_named (listed back.attributes.bytes back.attributes.count) name ≡ named_told (attributes.told (listed p.attributes.bytes p.attributes.count)) name

abbrev pub FieldsByName : Type 0
FieldsByName = (mode : Mode) (p : NewField) (extra name : List ℕ) (e : Bor (List ℕ)) → IsFit p → e.now ≡ grown (field_bytes p) extra → length e.now ≤ limit → IsNamed mode p e name

-- docs/FORMAT.md, "Fit records": the theorems of fields that are written, read as data types.
use Rattle.std.specs.Prelude.{ℕ, ◌≡◌, List}
use Rattle.std.specs.Borrow.{Bor}
use Rattle.le.specs.Le.{le2}
use Rattle.refusal.specs.declared.Mode.{Mode}
use Rattle.walk.specs.Mapped.{map_ok}
use Rattle.walk.specs.Step.{step_at}
use Rattle.walk.specs.Theorems.{cursor_of}
use Rattle.regrown.specs.Regrown.{ComeBack}
use Rattle.regrown.specs.ShutsOut.{ShutsOut}
use Rattle.regrown.specs.Tells.{tells}
use Rattle.field.specs.Field.{field_of}
use Rattle.field.specs.Writing.{field_bytes}
use Rattle.fields_regrown.specs.Kind.{IsFit}
use Rattle.data_type.specs.declared.AdsDataTypeInfo.{AdsDataTypeInfo}
use Rattle.data_type.specs.DataType.{type_at, type_of}
use Rattle.data_type.specs.Told.{told_of}
use Rattle.types_regrown.specs.Told.{meant}
use Rattle.types_regrown.specs.Plain.{plain}

-- fit fields, written one after another, come back from the walk over data types, in whatever mode, with no array record and no member
abbrev pub TypesComeBack : Type 0
TypesComeBack = (mode : Mode) → ComeBack IsFit field_bytes meant (step_at (type_of mode)) cursor_of (tells (λ (r : AdsDataTypeInfo). r.field.length) told_of)

-- a step that never gives a record, and one that gives a record wherever it is asked
abbrev pub TypesShutOut : Type 0
TypesShutOut = ShutsOut IsFit field_bytes meant cursor_of (tells (λ (r : AdsDataTypeInfo). r.field.length) told_of)

-- an entry with no array record and no sub-item is read as a field is, at whatever level it stands
abbrev pub PlainEntries : Type 0
PlainEntries = (mode : Mode) (left : ℕ) (e : Bor (List ℕ)) → le2 e.now 38 ≡ 0 → le2 e.now 40 ≡ 0 → type_at mode left e ≡ map_ok (plain e) (field_of mode e)

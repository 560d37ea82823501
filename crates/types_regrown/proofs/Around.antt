-- A step that never gives a record, and one that gives a record wherever it is asked, are shut out.
use Rattle.walk.specs.Theorems.{cursor_of}
use Rattle.regrown.specs.Tells.{tells}
use Rattle.regrown.proofs.ShutsOut.{shuts_out}
use Rattle.field.specs.Writing.{field_bytes}
use Rattle.fields_regrown.specs.Kind.{IsFit}
use Rattle.fields_regrown.proofs.Around.{fit, small}
use Rattle.data_type.specs.declared.AdsDataTypeInfo.{AdsDataTypeInfo}
use Rattle.data_type.specs.Told.{told_of}
use Rattle.types_regrown.specs.Told.{meant}
use Rattle.types_regrown.specs.Theorems.{TypesShutOut}

pub shut : TypesShutOut
shut = shuts_out IsFit field_bytes meant cursor_of (tells (λ (r : AdsDataTypeInfo). r.field.length) told_of) fit small

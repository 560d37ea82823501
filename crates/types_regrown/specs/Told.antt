-- docs/FORMAT.md, "Fit records": what is meant by a field that is written, read as a data type.
use Rattle.std.specs.Prelude.{ℕ, List, []}
use Rattle.field.specs.declared.writer.NewField.{NewField}
use Rattle.field.specs.Told as field
use Rattle.data_type.specs.Told.{Told}

-- what a field that is written means as a data type
abbrev pub meant : NewField → List ℕ → Told
meant p extra = record { field = field.meant p extra; arrays = []; count = 0; members = [] }

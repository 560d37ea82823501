use Rattle.data_type.proofs.AsField.{types_as_fields}
use Rattle.data_type.proofs.theorems.types_as_fields.Goals as goal

pub returns : goal.returns
returns c = types_as_fields

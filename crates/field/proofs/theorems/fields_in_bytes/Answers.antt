use Rattle.field.proofs.Bytes.{fields_in_bytes}
use Rattle.field.proofs.theorems.fields_in_bytes.Goals as goal

pub returns : goal.returns
returns c = fields_in_bytes

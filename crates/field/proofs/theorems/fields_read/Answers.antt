use Rattle.field.proofs.Placed.{fields_read}
use Rattle.field.proofs.theorems.fields_read.Goals as goal

pub returns : goal.returns
returns c = fields_read

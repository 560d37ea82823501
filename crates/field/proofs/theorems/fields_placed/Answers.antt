use Rattle.field.proofs.Placed.{fields_placed}
use Rattle.field.proofs.theorems.fields_placed.Goals as goal

pub returns : goal.returns
returns c = fields_placed

use Rattle.field.proofs.Within.{fields_within}
use Rattle.field.proofs.theorems.fields_within.Goals as goal

pub returns : goal.returns
returns c = fields_within

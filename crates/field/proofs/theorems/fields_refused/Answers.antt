use Rattle.field.proofs.Refused.{fields_refused}
use Rattle.field.proofs.theorems.fields_refused.Goals as goal

pub returns : goal.returns
returns c = fields_refused

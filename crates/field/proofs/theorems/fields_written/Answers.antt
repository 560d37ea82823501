use Rattle.field.proofs.Taken.{fields_written}
use Rattle.field.proofs.theorems.fields_written.Goals as goal

pub returns : goal.returns
returns c = fields_written

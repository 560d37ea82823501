use Rattle.field.proofs.Anywhere.{fields_anywhere}
use Rattle.field.proofs.theorems.fields_anywhere.Goals as goal

pub returns : goal.returns
returns c = fields_anywhere

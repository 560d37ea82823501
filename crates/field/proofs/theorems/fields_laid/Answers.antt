use Rattle.field.proofs.Laid.{fields_laid}
use Rattle.field.proofs.theorems.fields_laid.Goals as goal

pub returns : goal.returns
returns c = fields_laid

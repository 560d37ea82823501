use Rattle.told.proofs.Meaning.{fields_told}
use Rattle.told.proofs.theorems.fields_told.Goals as goal

pub returns : goal.returns
returns c = fields_told

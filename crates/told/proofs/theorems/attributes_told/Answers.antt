use Rattle.told.proofs.Parts.{attributes_told}
use Rattle.told.proofs.theorems.attributes_told.Goals as goal

pub returns : goal.returns
returns c = attributes_told

use Rattle.told.proofs.Parts.{refactors_told}
use Rattle.told.proofs.theorems.refactors_told.Goals as goal

pub returns : goal.returns
returns c = refactors_told

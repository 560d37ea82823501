use Rattle.sections.proofs.Standing.{sections_told}
use Rattle.sections.proofs.theorems.sections_told.Goals as goal

pub returns : goal.returns
returns c = sections_told

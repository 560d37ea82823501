use Rattle.sections.proofs.Cutting.{sections_laid}
use Rattle.sections.proofs.theorems.sections_laid.Goals as goal

pub returns : goal.returns
returns c = sections_laid

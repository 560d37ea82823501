use Rattle.why.proofs.Explained.{reasons_shown}
use Rattle.why.proofs.theorems.reasons_shown.Goals as goal

pub returns : goal.returns
returns c = reasons_shown

use Rattle.why.proofs.Explained.{reasons_true}
use Rattle.why.proofs.theorems.reasons_true.Goals as goal

pub returns : goal.returns
returns c = reasons_true

use Rattle.why.proofs.One.{reasons_one}
use Rattle.why.proofs.theorems.reasons_one.Goals as goal

pub returns : goal.returns
returns c = reasons_one

use Rattle.bind.proofs.Alone.{limits_first}
use Rattle.bind.proofs.theorems.limits_first.Goals as goal

pub returns : goal.returns
returns c = limits_first

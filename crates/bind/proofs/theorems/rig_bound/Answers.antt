use Rattle.bind.proofs.Rig.{rig_bound}
use Rattle.bind.proofs.theorems.rig_bound.Goals as goal

pub returns : goal.returns
returns c = rig_bound

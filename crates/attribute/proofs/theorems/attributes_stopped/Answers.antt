use Rattle.attribute.proofs.Stopped.{attributes_stopped}
use Rattle.attribute.proofs.theorems.attributes_stopped.Goals as goal

pub returns : goal.returns
returns c = attributes_stopped

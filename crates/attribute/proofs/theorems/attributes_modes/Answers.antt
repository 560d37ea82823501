use Rattle.attribute.proofs.Modes.{attributes_modes}
use Rattle.attribute.proofs.theorems.attributes_modes.Goals as goal

pub returns : goal.returns
returns c = attributes_modes

use Rattle.attribute.proofs.Fit.{attributes_fixed}
use Rattle.attribute.proofs.theorems.attributes_fixed.Goals as goal

pub returns : goal.returns
returns c = attributes_fixed

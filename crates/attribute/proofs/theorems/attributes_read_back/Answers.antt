use Rattle.attribute.proofs.Fit.{attributes_read_back}
use Rattle.attribute.proofs.theorems.attributes_read_back.Goals as goal

pub returns : goal.returns
returns c = attributes_read_back

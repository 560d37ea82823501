use Rattle.attribute.proofs.Fit.{attribute_blocks}
use Rattle.attribute.proofs.theorems.attribute_blocks.Goals as goal

pub returns : goal.returns
returns c = attribute_blocks

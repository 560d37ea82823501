use Rattle.attribute.proofs.Fit.{attribute_blocks_made}
use Rattle.attribute.proofs.theorems.attribute_blocks_made.Goals as goal

pub returns : goal.returns
returns c = attribute_blocks_made

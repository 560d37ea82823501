use Rattle.attribute.proofs.Read.{attributes_read}
use Rattle.attribute.proofs.theorems.attributes_read.Goals as goal

pub returns : goal.returns
returns c = attributes_read

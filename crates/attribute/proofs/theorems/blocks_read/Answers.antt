use Rattle.attribute.proofs.Again.{blocks_read}
use Rattle.attribute.proofs.theorems.blocks_read.Goals as goal

pub returns : goal.returns
returns c = blocks_read

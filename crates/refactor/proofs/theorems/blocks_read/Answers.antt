use Rattle.refactor.proofs.Again.{blocks_read}
use Rattle.refactor.proofs.theorems.blocks_read.Goals as goal

pub returns : goal.returns
returns c = blocks_read

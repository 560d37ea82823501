use Rattle.refactor.proofs.Fit.{refactor_blocks}
use Rattle.refactor.proofs.theorems.refactor_blocks.Goals as goal

pub returns : goal.returns
returns c = refactor_blocks

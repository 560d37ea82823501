use Rattle.refactor.proofs.Fit.{refactor_blocks_made}
use Rattle.refactor.proofs.theorems.refactor_blocks_made.Goals as goal

pub returns : goal.returns
returns c = refactor_blocks_made

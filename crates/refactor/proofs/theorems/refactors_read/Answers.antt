use Rattle.refactor.proofs.Read.{refactors_read}
use Rattle.refactor.proofs.theorems.refactors_read.Goals as goal

pub returns : goal.returns
returns c = refactors_read

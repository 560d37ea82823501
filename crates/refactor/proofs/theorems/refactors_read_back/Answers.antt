use Rattle.refactor.proofs.Fit.{refactors_read_back}
use Rattle.refactor.proofs.theorems.refactors_read_back.Goals as goal

pub returns : goal.returns
returns c = refactors_read_back

use Rattle.refactor.proofs.Fit.{refactors_fixed}
use Rattle.refactor.proofs.theorems.refactors_fixed.Goals as goal

pub returns : goal.returns
returns c = refactors_fixed

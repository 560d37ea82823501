use Rattle.refactor.proofs.Inside.{refactors_shown}
use Rattle.refactor.proofs.theorems.refactors_shown.Goals as goal

pub returns : goal.returns
returns c = refactors_shown

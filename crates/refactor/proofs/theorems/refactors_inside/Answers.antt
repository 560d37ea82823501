use Rattle.refactor.proofs.Inside.{refactors_inside}
use Rattle.refactor.proofs.theorems.refactors_inside.Goals as goal

pub returns : goal.returns
returns c = refactors_inside

use Rattle.refactor.proofs.BlockMeant.{refactors_refused}
use Rattle.refactor.proofs.theorems.refactors_refused.Goals as goal

pub returns : goal.returns
returns c = refactors_refused

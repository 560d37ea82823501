use Rattle.refactor.proofs.Modes.{refactors_modes}
use Rattle.refactor.proofs.theorems.refactors_modes.Goals as goal

pub returns : goal.returns
returns c = refactors_modes

use Rattle.refactor.proofs.Modes.{chains_modes}
use Rattle.refactor.proofs.theorems.chains_modes.Goals as goal

pub returns : goal.returns
returns c = chains_modes

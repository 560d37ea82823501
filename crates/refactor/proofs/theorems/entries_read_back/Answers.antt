use Rattle.refactor.proofs.Modes.{entries_read_back}
use Rattle.refactor.proofs.theorems.entries_read_back.Goals as goal

pub returns : goal.returns
returns c = entries_read_back

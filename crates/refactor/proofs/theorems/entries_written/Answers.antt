use Rattle.refactor.proofs.Accepted.{entries_written}
use Rattle.refactor.proofs.theorems.entries_written.Goals as goal

pub returns : goal.returns
returns c = entries_written

use Rattle.refactor.proofs.Accepted.{chains_read_back}
use Rattle.refactor.proofs.theorems.chains_read_back.Goals as goal

pub returns : goal.returns
returns c = chains_read_back

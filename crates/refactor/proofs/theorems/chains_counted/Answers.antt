use Rattle.refactor.proofs.Inside.{chains_counted}
use Rattle.refactor.proofs.theorems.chains_counted.Goals as goal

pub returns : goal.returns
returns c = chains_counted

use Rattle.refactor.proofs.Chains.{chains_refused}
use Rattle.refactor.proofs.theorems.chains_refused.Goals as goal

pub returns : goal.returns
returns c = chains_refused

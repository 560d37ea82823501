use Rattle.told.proofs.theorems.chains_told.Goals as goal
use Rattle.told.proofs.Chains.{chains_told}

pub returns : goal.returns
returns c = chains_told

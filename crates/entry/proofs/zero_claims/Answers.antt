use Rattle.entry.proofs.Theorems.{zero_claims}
use Rattle.entry.proofs.zero_claims.Goals as goal

pub returns : goal.returns
returns c = zero_claims

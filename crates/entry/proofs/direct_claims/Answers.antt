use Rattle.entry.proofs.DirectClaims.{direct_claims}
use Rattle.entry.proofs.direct_claims.Goals as goal

pub returns : goal.returns
returns c = direct_claims

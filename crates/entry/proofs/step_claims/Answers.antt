use Rattle.entry.proofs.Claims.{claims}
use Rattle.entry.proofs.step_claims.Goals as goal

pub returns : goal.returns
returns c = claims

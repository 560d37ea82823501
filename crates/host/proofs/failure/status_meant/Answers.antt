use Rattle.host.proofs.StatusMeant.{status_meant}
use Rattle.host.proofs.failure.status_meant.Goals as goal

pub returns : goal.returns
returns c = status_meant

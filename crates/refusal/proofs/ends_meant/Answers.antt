use Rattle.refusal.proofs.EndsMeant.{ends_meant}
use Rattle.refusal.proofs.ends_meant.Goals as goal

pub returns : goal.returns
returns c = ends_meant

use Rattle.entry.proofs.BoundedMeant.{bounded_meant}
use Rattle.entry.proofs.bounded_meant.Goals as goal

pub returns : goal.returns
returns c = bounded_meant

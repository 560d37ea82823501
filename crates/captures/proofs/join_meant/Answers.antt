use Rattle.captures.proofs.Spelt.{join_meant}
use Rattle.captures.proofs.join_meant.Goals as goal

pub returns : goal.returns
returns c = join_meant

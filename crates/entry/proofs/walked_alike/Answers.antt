use Rattle.entry.proofs.Alike.{walked_alike}
use Rattle.entry.proofs.walked_alike.Goals as goal

pub returns : goal.returns
returns c = walked_alike

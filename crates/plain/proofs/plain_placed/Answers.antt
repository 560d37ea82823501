use Rattle.plain.proofs.Placed.{plain_placed}
use Rattle.plain.proofs.plain_placed.Goals as goal

pub returns : goal.returns
returns c = plain_placed

use Rattle.walk.proofs.Theorems.{pieces_tell}
use Rattle.walk.proofs.pieces_tell_steps.Goals as goal

pub returns : goal.returns
returns g c = λ mode. pieces_tell (g.E.Entry.read mode)

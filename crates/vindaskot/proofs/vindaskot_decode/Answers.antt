use Rattle.std.proofs.Common.{refl}
use Rattle.vindaskot.proofs.Told.{told_one}
use Rattle.vindaskot.proofs.vindaskot_decode.Goals as goal

pub returns : goal.returns
returns c = told_one refl c.number.ensures (assumption c)

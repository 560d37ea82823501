use Rattle.walk.proofs.Direct.{parses_meant}
use Rattle.walk.proofs.parses_meant.Goals as goal

pub returns : goal.returns
returns g c = λ mode. parses_meant g.E.Entry.HEADER (g.E.Entry.read mode)

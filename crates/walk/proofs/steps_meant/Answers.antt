use Rattle.walk.proofs.Steps.{steps_meant}
use Rattle.walk.proofs.steps_meant.Goals as goal

pub returns : goal.returns
returns g c = λ mode. let m = g.met.E.Entry c.lifetimes (assumption c) in steps_meant g.E.Entry.HEADER (g.E.Entry.read mode) (m.short mode)

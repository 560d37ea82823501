use Rattle.walk.proofs.Theorems.{reads}
use Rattle.walk.proofs.steps_read.Goals as goal

pub returns : goal.returns
returns g c = λ mode s at r h. let m = g.met.E.Entry c.lifetimes (assumption c) in reads (g.E.Entry.read mode) g.E.Entry.HEADER g.E.Entry.length_of m.four (m.long mode) (m.room mode) s at r h

use Rattle.index.proofs.Steps.{by_steps_of}
use Rattle.name_index.proofs.Meaning.{same_halved_of}
use Rattle.name_index.proofs.theorems.same_halved.Goals as goal

pub returns : goal.returns
returns g c = λ mode. let m = g.met.E.Entry c.lifetimes (assumption c) in let named = g.met.E.Named c.lifetimes (assumption c) in same_halved_of g.E.Named.places (g.E.Entry.read mode) (by_steps_of (g.E.Entry.read mode) g.E.Entry.HEADER m.four (m.short mode) (m.never_zero mode)) g.E.Named.name_of (named.told mode)

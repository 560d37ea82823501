use Rattle.index.proofs.Steps.{by_steps_of}
use Rattle.name_index.proofs.Meaning.{name_index_meant_of}
use Rattle.name_index.proofs.theorems.name_index_meant.Goals as goal

pub returns : goal.returns
returns g c = λ mode. let m = g.met.E.Entry c.lifetimes (assumption c) in name_index_meant_of g.E.Named.places (g.E.Entry.read mode) (by_steps_of (g.E.Entry.read mode) g.E.Entry.HEADER m.four (m.short mode) (m.never_zero mode))

use Rattle.name_index.proofs.BranchMeaning.{named_meant_of}
use Rattle.name_index.proofs.theorems.named_meant.Goals as goal

pub returns : goal.returns
returns g c = λ mode. let m = g.met.E.Entry c.lifetimes (assumption c) in let named = g.met.E.Named c.lifetimes (assumption c) in named_meant_of g.E.Named.places g.E.Entry.HEADER (g.E.Entry.read mode) g.E.Entry.length_of g.E.Named.name_of m.four (m.long mode) (m.room mode) (named.told mode)

use Rattle.index.proofs.Steps.{by_steps_of}
use Rattle.name_find.proofs.Meaning.{same_find_of}
use Rattle.name_find.proofs.same_find.Goals as goal

pub returns : goal.returns
returns g c = let m = g.met.E.Entry c.lifetimes (assumption c) in same_find_of g.E.Entry.read g.E.Named.name_of (λ mode. by_steps_of (g.E.Entry.read mode) g.E.Entry.HEADER m.four (m.short mode) (m.never_zero mode))

use Rattle.index.proofs.Steps.{by_steps_of}
use Rattle.damage.proofs.Theorems.{stays_in_place_of}
use Rattle.damage.proofs.stays_in_place.Goals as goal

pub returns : goal.returns
returns g c = λ mode.
    let m = g.met.E.Entry c.lifetimes (assumption c) in
    stays_in_place_of g.E.Entry.HEADER m.four (g.E.Entry.read mode) (by_steps_of (g.E.Entry.read mode) g.E.Entry.HEADER m.four (m.short mode) (m.never_zero mode))

use Rattle.index.proofs.Steps.{by_steps_of}
use Rattle.damage.proofs.Theorems.{stays_anywhere_of}
use Rattle.damage.proofs.stays_anywhere.Goals as goal

pub returns : goal.returns
returns g c = λ mode.
    let m = g.met.K.Record.Entry c.lifetimes (assumption c) in
    let k = g.met.K.Telling c.lifetimes (assumption c) in
    stays_anywhere_of g.K.Record.Entry.length_of g.K.Telling.told g.K.Record.Entry.HEADER m.four (g.K.Record.Entry.read mode)
    (by_steps_of (g.K.Record.Entry.read mode) g.K.Record.Entry.HEADER m.four (m.short mode) (m.never_zero mode)) (m.long mode) (k.alike mode)

use Rattle.index.proofs.Steps.{by_steps_of}
use Rattle.names_damaged.proofs.Finding.{finding_stays_of}
use Rattle.names_damaged.proofs.finding_stays.Goals as goal

pub returns : goal.returns
returns g c =
    let m = g.met.K.Record.Entry c.lifetimes (assumption c) in
    let named = g.met.K.Record.Named c.lifetimes (assumption c) in
    let k = g.met.K.Telling c.lifetimes (assumption c) in
    finding_stays_of g.K.Record.Entry.HEADER g.K.Record.Named.places g.K.Record.Entry.read g.K.Record.Entry.length_of g.K.Record.Named.name_of g.K.Telling.told
    m.four m.long m.room (λ mode. by_steps_of (g.K.Record.Entry.read mode) g.K.Record.Entry.HEADER m.four (m.short mode) (m.never_zero mode)) named.told k.alike

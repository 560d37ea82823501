use Rattle.salvage.proofs.Meaning.{salvage_meant_of}
use Rattle.salvage.proofs.salvage_meant.Goals as goal

pub returns : goal.returns
returns g c = λ mode.
    let m = g.met.K.Record.Entry c.lifetimes (assumption c) in
    let k = g.met.K.Salvageable c.lifetimes (assumption c) in
    salvage_meant_of (g.K.Record.Entry.read mode) g.K.Record.Entry.length_of g.K.Salvageable.told g.K.Record.Entry.HEADER m.four (m.long mode) (m.room mode)
    (k.alike mode) (g.K.Salvageable.Reason mode) (g.K.Salvageable.short mode) (g.K.Salvageable.beyond mode) (k.own mode)

use Rattle.regrown.proofs.Back.{come_back_of}
use Rattle.regrown.proofs.come_back.Goals as goal

pub returns : goal.returns
returns g c = λ mode.
    let m = g.met.K.Record.Entry c.lifetimes (assumption c) in
    let k = g.met.K.Fits c.lifetimes (assumption c) in
    come_back_of (g.K.Record.Entry.read mode) g.K.Record.Entry.length_of g.K.Fits.told g.K.Record.Entry.HEADER m.four (m.long mode) (m.room mode)
    g.K.Fits.Fit g.K.Fits.written g.K.Fits.meant (k.reads_back mode)

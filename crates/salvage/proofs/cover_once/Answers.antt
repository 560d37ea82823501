use Rattle.salvage.proofs.Once.{cover_once_of}
use Rattle.salvage.proofs.cover_once.Goals as goal

pub returns : goal.returns
returns g c = λ mode. cover_once_of (g.K.Record.Entry.read mode) g.K.Record.Entry.length_of g.K.Salvageable.told (g.K.Salvageable.Reason mode)

use Rattle.damage.proofs.Theorems.{salvage_writes_of}
use Rattle.damage.proofs.salvage_writes.Goals as goal

pub returns : goal.returns
returns g c = λ mode. salvage_writes_of (g.E.Entry.read mode)

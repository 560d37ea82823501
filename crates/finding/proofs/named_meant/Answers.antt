use Rattle.finding.proofs.Meant.{named_meant_of}
use Rattle.finding.proofs.named_meant.Goals as goal

pub returns : goal.returns
returns g c = let m = g.met.E.Entry c.lifetimes (assumption c) in named_meant_of g.E.Entry.HEADER g.E.Entry.read g.E.Entry.length_of g.E.Named.name_of m.four m.long m.room

use Rattle.name_find.proofs.Meaning.{find_meant_of}
use Rattle.name_find.proofs.find_meant.Goals as goal

pub returns : goal.returns
returns g c = let m = g.met.E.Entry c.lifetimes (assumption c) in find_meant_of g.E.Entry.HEADER g.E.Entry.read g.E.Entry.length_of g.E.Named.name_of m.four m.long m.room

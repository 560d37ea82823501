use Rattle.name_find.proofs.Meaning.{refused_is_nowhere_of}
use Rattle.name_find.proofs.refused_is_nowhere.Goals as goal

pub returns : goal.returns
returns g c = let m = g.met.E.Entry c.lifetimes (assumption c) in refused_is_nowhere_of g.E.Entry.HEADER g.E.Entry.read g.E.Entry.length_of g.E.Named.name_of m.four m.long m.room

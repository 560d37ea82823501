use Rattle.name_find.proofs.Meaning.{found_is_first_of}
use Rattle.name_find.proofs.found_is_first.Goals as goal

pub returns : goal.returns
returns g c = let m = g.met.E.Entry c.lifetimes (assumption c) in found_is_first_of g.E.Entry.HEADER g.E.Entry.read g.E.Entry.length_of g.E.Named.name_of m.four m.long m.room

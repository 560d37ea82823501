use Rattle.walk.proofs.Theorems.{behind_unread}
use Rattle.walk.proofs.behind_is_unread.Goals as goal

pub returns : goal.returns
returns g c = λ mode s b. let m = g.met.E.Entry c.lifetimes (assumption c) in behind_unread (g.E.Entry.read mode) g.E.Entry.HEADER m.four s b.within b.long b.there

use Rattle.std.proofs.Common.{rules}
use Rattle.walk.proofs.Left.{ends_there}
use Rattle.walk.proofs.WalkerIterator.next.Goals as goal

pub returns-then-self-clause-steps : goal.returns-then-self-clause-steps
returns-then-self-clause-steps g c = ends_there g.E.Entry.read _ (search rules)

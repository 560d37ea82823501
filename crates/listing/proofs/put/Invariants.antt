use Rattle.std.proofs.Common.{length}
use Rattle.listing.proofs.Rows.{Going}
use Rattle.listing.proofs.put.Given as goal

abbrev pub decreases-loop-rest : goal.decreases-loop-rest
decreases-loop-rest g l = length l.rest

abbrev pub invariant-loop-rest : goal.invariant-loop-rest
invariant-loop-rest g l = Going (g.W.Write.contents l.initial.output) (g.W.Write.contents l.output) l.rest l.bytes

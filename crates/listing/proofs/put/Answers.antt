use Rattle.std.proofs.Common.{take, arith}
use Rattle.listing.proofs.Rows.{goes_part, behind, behind_less, split_at}
use Rattle.listing.proofs.put.Goals as goal

pub loop-rest-smaller : goal.loop-rest-smaller
loop-rest-smaller g c = behind_less c.loop-rest.rest.now c.in-Ok.n (omega arith) (omega arith)

pub loop-rest-preserved : goal.loop-rest-preserved
loop-rest-preserved g c =
    goes_part (take c.in-Ok.n c.loop-rest.rest.now) (behind c.loop-rest.rest.now c.in-Ok.n) c.loop-rest.invariant c.in-Ok.ensures.ok (split_at c.loop-rest.rest.now c.in-Ok.n)

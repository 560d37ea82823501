use Rattle.std.proofs.Common.{arith, sym}
use Rattle.attribute.proofs.Room.{short}
use Rattle.attribute.proofs.block.good.Goals as goal

pub returns-clause-small : goal.returns-clause-small
returns-clause-small c =
    let n = c.type_inv.bytes 0 in
    let v = c.type_inv.bytes 1 in
    omega (arith, n, v, short _ _ (sym c.in_ok-next.ensures))

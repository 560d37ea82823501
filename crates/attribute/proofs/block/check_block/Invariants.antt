use Rattle.std.proofs.Common.{◌≡◌, ◌+◌, ◌*◌, ◌≤◌, length}
use Rattle.attribute.specs.Block.{exact}
use Rattle.attribute.proofs.block.check_block.Given as goal

abbrev pub invariant-loop-rest : goal.invariant-loop-rest
invariant-loop-rest l =
    record {
      left : l.rest.count ≤ l.count;
      exact : exact l.rest.bytes l.count l.rest.count ≡ exact l.initial.rest.bytes l.count l.count;
      small : length l.initial.rest.bytes.now + 514 * l.rest.count ≤ length l.rest.bytes.now + 514 * l.count;
    }

abbrev pub decreases-loop-rest : goal.decreases-loop-rest
decreases-loop-rest l = l.rest.count

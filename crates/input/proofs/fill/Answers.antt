use Rattle.std.proofs.Common.{arith}
use Rattle.std.proofs.KnownBytes.{Consumes-nil}
use Rattle.input.proofs.More.{read_end, read_on, read-interrupted}
use Rattle.input.proofs.fill.Goals as goal
use Rattle.input.proofs.fill.Goals.{in-Ok, in-Err+else-ne}

pub loop-init : goal.loop-init
loop-init g c = (omega arith, Consumes-nil _)

pub returns-in-Ok-eq0-clause-bytes : goal.returns-in-Ok-eq0-clause-bytes
returns-in-Ok-eq0-clause-bytes g c =
    read_end c.loop.buf c.read.new.buf c.loop.at c.loop.invariant.0 _ _ _ c.in-Ok-eq0.field-0 c.in-Ok-eq0.field-0-test c.in-Ok-eq0.ensures.bound.0 c.loop.invariant.1 c.in-Ok-eq0.ensures.bytes.0

pub loop-preserved : goal.loop-preserved
loop-preserved g c =
    elim c.match-read.branch [
      | in-Ok w ↦ read_on c.loop.buf c.read.new.buf c.loop.at c.loop.invariant.0 _ _ _ w.in-Ok.n _ w.at-is (omega arith) w.in-Ok.ensures.bound.0 c.loop.invariant.1 w.in-Ok.ensures.bytes.0
      | in-Err+else-ne w ↦ read-interrupted c.loop.buf c.read.new.buf c.loop.at c.loop.invariant.0 _ _ _ _ w.at-is (omega arith) c.loop.invariant.1 w.in-Err.ensures.bytes
    ]

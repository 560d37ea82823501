use Rattle.std.proofs.Common.{length}
use Rattle.sheet_rows.proofs.Lines.{Left}
use Rattle.sheet_rows.proofs.check_rows.Given as goal

abbrev pub invariant-loop-left : goal.invariant-loop-left
invariant-loop-left l = Left l.rows.bytes l.left.bytes l.row l.extent

abbrev pub decreases-loop-left : goal.decreases-loop-left
decreases-loop-left l = length l.left.bytes.now

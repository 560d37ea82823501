use Rattle.std.proofs.Common.{length}
use Rattle.sheet_import.proofs.Sizes.{Checking}
use Rattle.sheet_import.proofs.check_rows.Given as goal

abbrev pub invariant-loop-cells : goal.invariant-loop-cells
invariant-loop-cells l = Checking l.rows.bytes l.left.bytes

abbrev pub decreases-loop-cells : goal.decreases-loop-cells
decreases-loop-cells l = length l.left.bytes.now

use Rattle.std.proofs.Common.{length}
use Rattle.sheet_import.proofs.Putting.{Putting}
use Rattle.sheet_import.proofs.put_upload.Given as goal

abbrev pub invariant-loop-cells : goal.invariant-loop-cells
invariant-loop-cells l = Putting l.rows.bytes l.left.bytes l.initial.upload l.upload l.at

abbrev pub decreases-loop-cells : goal.decreases-loop-cells
decreases-loop-cells l = length l.left.bytes.now

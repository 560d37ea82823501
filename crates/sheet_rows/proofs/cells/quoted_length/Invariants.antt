use Rattle.std.proofs.Common.{◌-◌, ◌≤◌, ◌≡◌, length, drop}
use Rattle.sheet_rows.specs.Cells.{behind, quoted_length}
use Rattle.sheet_rows.proofs.cells.quoted_length.Given as goal

abbrev pub invariant-loop-at : goal.invariant-loop-at
invariant-loop-at l = record { inside : l.at ≤ length l.bytes; left : behind l.at (quoted_length (drop l.at l.bytes)) ≡ quoted_length l.bytes }

abbrev pub decreases-loop-at : goal.decreases-loop-at
decreases-loop-at l = length l.bytes - l.at

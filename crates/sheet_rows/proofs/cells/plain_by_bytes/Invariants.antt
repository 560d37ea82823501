use Rattle.std.proofs.Common.{◌+◌, ◌≡◌, drop}
use Rattle.sheet_rows.specs.Cells.{plain_length}
use Rattle.sheet_rows.proofs.cells.plain_by_bytes.Given as goal

abbrev pub invariant-loop-at : goal.invariant-loop-at
invariant-loop-at l = l.at + plain_length (drop l.at l.bytes) ≡ plain_length l.bytes

use Rattle.std.proofs.Common.{◌≡◌, ◌+◌, ◌*◌, ◌≤◌, length, take}
use Rattle.std.specs.Prelude.{if◌then◌else◌}
use Rattle.std.specs.List.{list_any}
use Rattle.sheet.specs.Cells.{is_special, escaped_all}
use Rattle.sheet.proofs.cells.cell_size.Given as goal

abbrev pub invariant-loop-byte : goal.invariant-loop-byte
invariant-loop-byte l = record {
  counted : l.size ≡ (if list_any is_special l.bytes then 2 else 0) + length (escaped_all (take l.byte-index l.bytes));
  small : l.size ≤ 2 + 3 * l.byte-index;
}

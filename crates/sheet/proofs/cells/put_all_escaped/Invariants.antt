use Rattle.std.proofs.Common.{take}
use Rattle.le.specs.Put.{Wrote}
use Rattle.sheet.specs.Cells.{escaped_all}
use Rattle.sheet.proofs.cells.put_all_escaped.Given as goal

abbrev pub invariant-loop-byte : goal.invariant-loop-byte
invariant-loop-byte l = Wrote l.initial.out l.at (escaped_all (take l.byte-index l.bytes)) l.out l.next

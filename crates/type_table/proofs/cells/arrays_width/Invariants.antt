use Rattle.std.proofs.Common.{◌≡◌}
use Rattle.data_type.specs.Array.{left}
use Rattle.type_table.specs.Cells.{arrays_on}
use Rattle.type_table.proofs.cells.arrays_width.Given as goal

abbrev pub invariant-loop-one : goal.invariant-loop-one
invariant-loop-one l = record {
  can : (goal.iterator-loop-one).can_next l.one-iterator;
  ends : (goal.iterator-loop-one).is_finite l.one-iterator;
  width : arrays_on l.width (left l.one-iterator.0) ≡ arrays_on 0 (left l.arrays);
}

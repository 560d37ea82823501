use Rattle.std.proofs.Common.{◌≡◌}
use Rattle.walk.specs.Pieces.{walker_left}
use Rattle.data_type.specs.DataType.{type_of}
use Rattle.type_table.specs.Table.{fitted_all}
use Rattle.type_table.proofs.table.columns_of.Given as goal

abbrev pub invariant-loop-piece : goal.invariant-loop-piece
invariant-loop-piece l = record {
  can : (goal.iterator-loop-piece).can_next l.piece-iterator;
  ends : (goal.iterator-loop-piece).is_finite l.piece-iterator;
  fits : fitted_all l.upload.mode l.columns (walker_left type_of l.piece-iterator) ≡ fitted_all l.upload.mode l.initial.columns (walker_left type_of l.initial.piece-iterator);
}

use Rattle.std.proofs.Common.{◌≡◌}
use Rattle.std.specs.List.{flat_map}
use Rattle.walk.specs.Pieces.{walker_left}
use Rattle.data_type.specs.DataType.{type_of}
use Rattle.report.proofs.Going.{Going}
use Rattle.type_tree.specs.Counts.{counted_on}
use Rattle.type_table.specs.Table.{piece_lines}
use Rattle.type_table.proofs.table.write_lines.Given as goal

abbrev pub invariant-loop-piece : goal.invariant-loop-piece
invariant-loop-piece g l = record {
  can : (goal.iterator-loop-piece g).can_next l.piece-iterator;
  ends : (goal.iterator-loop-piece g).is_finite l.piece-iterator;
  going : Going (g.W.Write.contents l.fn.out) (g.W.Write.contents l.out) (flat_map (piece_lines l.upload.mode l.columns) (walker_left type_of l.piece-iterator)) (flat_map (piece_lines l.upload.mode l.columns) (walker_left type_of l.initial.piece-iterator));
  counts : counted_on l.counts (walker_left type_of l.piece-iterator) ≡ counted_on l.initial.counts (walker_left type_of l.initial.piece-iterator);
}

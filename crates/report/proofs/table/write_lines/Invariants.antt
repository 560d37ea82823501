use Rattle.std.proofs.Common.{◌≡◌}
use Rattle.std.specs.List.{flat_map}
use Rattle.symbol.specs.Symbol.{symbol_of}
use Rattle.walk.specs.Pieces.{walker_left}
use Rattle.report.specs.Report.{tallied}
use Rattle.report.specs.Table.{line_text}
use Rattle.report.proofs.Going.{Going}
use Rattle.report.proofs.table.write_lines.Given as goal

abbrev pub invariant-loop-piece : goal.invariant-loop-piece
invariant-loop-piece g l = record {
  can : (goal.iterator-loop-piece g).can_next l.piece-iterator;
  ends : (goal.iterator-loop-piece g).is_finite l.piece-iterator;
  going : Going (g.W.Write.contents l.fn.out) (g.W.Write.contents l.out) (flat_map (line_text l.columns) (walker_left symbol_of l.piece-iterator)) (flat_map (line_text l.columns) (walker_left symbol_of l.initial.piece-iterator));
  counts : tallied l.tally (walker_left symbol_of l.piece-iterator) ≡ tallied l.initial.tally (walker_left symbol_of l.initial.piece-iterator);
}

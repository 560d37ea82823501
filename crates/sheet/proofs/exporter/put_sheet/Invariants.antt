use Rattle.std.proofs.Common.{◌++◌}
use Rattle.symbol.specs.Symbol.{symbol_of}
use Rattle.walk.specs.Pieces.{walker_left}
use Rattle.writing.proofs.Going.{Going}
use Rattle.sheet.specs.Cells.{header}
use Rattle.sheet.specs.Export.{pieces_text}
use Rattle.sheet.proofs.exporter.put_sheet.Given as goal

abbrev pub invariant-loop-piece : goal.invariant-loop-piece
invariant-loop-piece l = record {
  can : goal.iterator-loop-piece.can_next l.piece-iterator;
  ends : goal.iterator-loop-piece.is_finite l.piece-iterator;
  copied : Going l.fn.out l.out l.at (pieces_text (walker_left symbol_of l.piece-iterator)) (header ++ pieces_text (walker_left symbol_of l.initial.piece-iterator));
}

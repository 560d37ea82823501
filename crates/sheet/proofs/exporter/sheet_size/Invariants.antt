use Rattle.std.proofs.Common.{◌≡◌, ◌+◌, ◌*◌, ◌≤◌, length}
use Rattle.std.specs.Prelude.{All}
use Rattle.symbol.specs.Symbol.{symbol_of}
use Rattle.walk.specs.Pieces.{walker_left}
use Rattle.sheet.specs.Export.{rows_from}
use Rattle.sheet.proofs.Pieces.{Lies, sized}
use Rattle.sheet.proofs.exporter.sheet_size.Given as goal

abbrev pub invariant-loop-piece : goal.invariant-loop-piece
invariant-loop-piece l = record {
  can : goal.iterator-loop-piece.can_next l.piece-iterator;
  ends : goal.iterator-loop-piece.is_finite l.piece-iterator;
  goes : sized l.size (rows_from l.upload l.entry (walker_left symbol_of l.piece-iterator)) ≡ sized 56 (rows_from l.upload 0 (walker_left symbol_of l.initial.piece-iterator));
  counted : l.entry + length (walker_left symbol_of l.piece-iterator) ≡ length (walker_left symbol_of l.initial.piece-iterator);
  small : l.size ≤ 56 + 150995020 * l.entry;
  lie : All (Lies l.upload) (walker_left symbol_of l.piece-iterator);
}

use Rattle.std.proofs.Common.{◌≡◌, All}
use Rattle.symbol.specs.Symbol.{symbol_of}
use Rattle.walk.specs.Pieces.{walker_left}
use Rattle.plain.specs.Plain.{pieces_plain}
use Rattle.walk.proofs.Forward.{Forward}
use Rattle.plain.proofs.check.Given as goal

abbrev pub invariant-loop-piece : goal.invariant-loop-piece
invariant-loop-piece l = record {
  can : goal.iterator-loop-piece.can_next l.piece-iterator;
  ends : goal.iterator-loop-piece.is_finite l.piece-iterator;
  goes : pieces_plain l.upload (walker_left symbol_of l.piece-iterator) ≡ pieces_plain l.upload (walker_left symbol_of l.initial.piece-iterator);
  forward : All (Forward l.upload) (walker_left symbol_of l.piece-iterator);
}

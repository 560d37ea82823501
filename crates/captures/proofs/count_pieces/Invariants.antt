use Rattle.std.proofs.Common.{◌≡◌, ◌+◌, length}
use Rattle.walk.specs.Pieces.{walker_left}
use Rattle.walk.specs.Unread.{unread_of}
use Rattle.captures.proofs.count_pieces.Given as goal

abbrev pub invariant-loop-piece : goal.invariant-loop-piece
invariant-loop-piece l = record {
  can : goal.iterator-loop-piece.can_next l._piece-iterator;
  ends : goal.iterator-loop-piece.is_finite l._piece-iterator;
  counted : l.count + length (walker_left unread_of l._piece-iterator) ≡ length (walker_left unread_of l.initial._piece-iterator);
}

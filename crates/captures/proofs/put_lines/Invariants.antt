use Rattle.std.specs.Prelude.{All}
use Rattle.walk.specs.Pieces.{walker_left}
use Rattle.walk.specs.Unread.{unread_of}
use Rattle.walk.proofs.Forward.{Forward}
use Rattle.writing.proofs.Going.{Going}
use Rattle.captures.proofs.Pieces.{lines_of}
use Rattle.captures.proofs.put_lines.Given as goal

abbrev pub invariant-loop-piece : goal.invariant-loop-piece
invariant-loop-piece l = record {
  can : goal.iterator-loop-piece.can_next l.piece-iterator;
  ends : goal.iterator-loop-piece.is_finite l.piece-iterator;
  copied : Going l.fn.text l.text l.at (lines_of l.upload (walker_left unread_of l.piece-iterator)) (lines_of l.upload (walker_left unread_of l.initial.piece-iterator));
  forward : All (Forward l.upload) (walker_left unread_of l.piece-iterator);
}

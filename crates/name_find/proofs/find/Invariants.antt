use Rattle.std.proofs.Common.{◌≡◌}
use Rattle.walk.specs.Pieces.{walker_left}
use Rattle.walk.specs.Unread.{unread_of}
use Rattle.name_find.proofs.Search.{search_in}
use Rattle.name_find.proofs.find.Given as goal

abbrev pub invariant-loop-piece : goal.invariant-loop-piece
invariant-loop-piece g l = record {
  can : (goal.iterator-loop-piece g).can_next l.piece-iterator;
  ends : (goal.iterator-loop-piece g).is_finite l.piece-iterator;
  going : search_in g.E.Named.name_of (g.E.Entry.read l.fn.mode) l.fn.name (walker_left unread_of l.piece-iterator) ≡ search_in g.E.Named.name_of (g.E.Entry.read l.fn.mode) l.fn.name (walker_left unread_of l.initial.piece-iterator);
}

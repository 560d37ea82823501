use Rattle.std.proofs.Common.{◌≡◌, All}
use Rattle.symbol.specs.Symbol.{symbol_of}
use Rattle.walk.specs.Pieces.{walker_left}
use Rattle.walk.proofs.Forward.{Forward}
use Rattle.plain_report.specs.Departure.{first_of}
use Rattle.plain_report.proofs.first_departure.Given as goal

abbrev pub invariant-loop-piece : goal.invariant-loop-piece
invariant-loop-piece g l = record {
  can : (goal.iterator-loop-piece g).can_next l.piece-iterator;
  ends : (goal.iterator-loop-piece g).is_finite l.piece-iterator;
  goes : first_of l.upload (walker_left symbol_of l.piece-iterator) ≡ first_of l.upload (walker_left symbol_of l.initial.piece-iterator);
  forward : All (Forward l.upload) (walker_left symbol_of l.piece-iterator);
}

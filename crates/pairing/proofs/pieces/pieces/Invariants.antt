use Rattle.std.proofs.Common.{◌≡◌, ◌++◌, map}
use Rattle.symbol.specs.Symbol.{symbol_of}
use Rattle.walk.specs.Pieces.{walker_left}
use Rattle.pairing.specs.Pieces.{piece_of}
use Rattle.pairing.proofs.pieces.pieces.Given as goal

abbrev pub invariant-loop-step : goal.invariant-loop-step
invariant-loop-step l = record {
  can : (goal.iterator-loop-step).can_next l.step-iterator;
  ends : (goal.iterator-loop-step).is_finite l.step-iterator;
  adds : l.all.items ++ map (piece_of l.upload.bytes) (walker_left symbol_of l.step-iterator) ≡ map (piece_of l.upload.bytes) (walker_left symbol_of l.initial.step-iterator);
}

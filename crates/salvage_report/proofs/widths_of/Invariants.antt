use Rattle.std.proofs.Common.{◌≡◌}
use Rattle.symbol.specs.Symbol.{symbol_of}
use Rattle.walk.specs.Pieces.{walker_left}
use Rattle.salvage_report.specs.Runs.{fitted_on}
use Rattle.salvage_report.proofs.widths_of.Given as goal

abbrev pub invariant-loop-piece : goal.invariant-loop-piece
invariant-loop-piece l = record {
  can : (goal.iterator-loop-piece).can_next l.piece-iterator;
  ends : (goal.iterator-loop-piece).is_finite l.piece-iterator;
  fits : fitted_on l.widths (walker_left symbol_of l.piece-iterator) ≡ fitted_on l.initial.widths (walker_left symbol_of l.initial.piece-iterator);
}

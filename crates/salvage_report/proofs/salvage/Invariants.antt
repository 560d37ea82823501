use Rattle.std.proofs.Common.{◌≡◌, ◌++◌}
use Rattle.std.specs.Prelude.{All}
use Rattle.symbol.specs.Symbol.{symbol_of}
use Rattle.walk.specs.Pieces.{walker_left}
use Rattle.salvage.specs.Salvage.{kept}
use Rattle.walk.proofs.Forward.{Forward}
use Rattle.report.specs.Report.{tallied}
use Rattle.salvage_report.proofs.salvage.Given as goal

abbrev pub invariant-loop-piece : goal.invariant-loop-piece
invariant-loop-piece l = record {
  can : (goal.iterator-loop-piece).can_next l.piece-iterator;
  ends : (goal.iterator-loop-piece).is_finite l.piece-iterator;
  so : l.kept.items ++ kept l.bytes (walker_left symbol_of l.piece-iterator) ≡ kept l.bytes (walker_left symbol_of l.initial.piece-iterator);
  counts : tallied l.tally (walker_left symbol_of l.piece-iterator) ≡ tallied l.initial.tally (walker_left symbol_of l.initial.piece-iterator);
  forward : All (Forward l.bytes) (walker_left symbol_of l.piece-iterator);
}

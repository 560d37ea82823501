use Rattle.std.specs.List.{flat_map}
use Rattle.symbol.specs.Symbol.{symbol_of}
use Rattle.walk.specs.Pieces.{walker_left}
use Rattle.report.proofs.Going.{Going}
use Rattle.salvage_report.specs.Runs.{run_text}
use Rattle.salvage_report.proofs.write_runs.Given as goal

abbrev pub invariant-loop-piece : goal.invariant-loop-piece
invariant-loop-piece g l = record {
  can : (goal.iterator-loop-piece g).can_next l.piece-iterator;
  ends : (goal.iterator-loop-piece g).is_finite l.piece-iterator;
  going : Going (g.W.Write.contents l.fn.out) (g.W.Write.contents l.out) (flat_map (run_text l.widths) (walker_left symbol_of l.piece-iterator)) (flat_map (run_text l.widths) (walker_left symbol_of l.initial.piece-iterator));
}

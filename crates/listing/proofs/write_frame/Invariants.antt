use Rattle.std.specs.List.{flat_map}
use Rattle.symbol.specs.Symbol.{symbol_of}
use Rattle.walk.specs.Pieces.{walker_left}
use Rattle.listing.specs.Listing.{row}
use Rattle.listing.proofs.Rows.{Going}
use Rattle.listing.proofs.write_frame.Given as goal

abbrev pub invariant-loop-piece : goal.invariant-loop-piece
invariant-loop-piece g l = record {
  can : (goal.iterator-loop-piece g).can_next l.piece-iterator;
  ends : (goal.iterator-loop-piece g).is_finite l.piece-iterator;
  going : Going (g.W.Write.contents l.fn.output) (g.W.Write.contents l.output) (flat_map (row l.line) (walker_left symbol_of l.piece-iterator)) (flat_map (row l.line) (walker_left symbol_of l.initial.piece-iterator));
}

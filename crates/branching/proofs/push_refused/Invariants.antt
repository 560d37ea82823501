use Rattle.std.proofs.Common.{◌≡◌, ◌≤◌, ◌++◌}
use Rattle.std.specs.Prelude.{All}
use Rattle.refusal.specs.Refusal.{limit}
use Rattle.symbol.specs.Symbol.{symbol_of}
use Rattle.walk.specs.Pieces.{walker_left}
use Rattle.branching.specs.Ordered.{refused_of}
use Rattle.branching.proofs.push_refused.Given as goal

abbrev pub invariant-loop-piece : goal.invariant-loop-piece
invariant-loop-piece l = record {
  can : (goal.iterator-loop-piece).can_next l.piece-iterator;
  ends : (goal.iterator-loop-piece).is_finite l.piece-iterator;
  adds : l.starts.items ++ refused_of (walker_left symbol_of l.piece-iterator) ≡ l.fn.starts.items ++ refused_of (walker_left symbol_of l.initial.piece-iterator);
  small : All (λ p. p.start ≤ limit) (walker_left symbol_of l.piece-iterator);
}

use Rattle.std.proofs.Common.{◌+◌, ◌≤◌, ◌≡◌, length}
use Rattle.bind.specs.Found.{symbol_found}
use Rattle.bind.specs.Binding.{longest}
use Rattle.bind.proofs.longest.Given as goal

abbrev pub invariant-loop-left : goal.invariant-loop-left
invariant-loop-left l = record {
  less : longest (symbol_found l.fn.mode l.fn.symbols) l.fn.path l.left ≡ longest (symbol_found l.fn.mode l.fn.symbols) l.fn.path (length l.fn.path + 1);
  fits : l.left ≤ length l.fn.path + 1;
}

abbrev pub decreases-loop-left : goal.decreases-loop-left
decreases-loop-left l = l.left

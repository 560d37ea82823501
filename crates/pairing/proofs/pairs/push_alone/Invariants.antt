use Rattle.std.proofs.Common.{◌≡◌, ◌++◌, drop}
use Rattle.pairing.specs.Pairs.{alone}
use Rattle.pairing.proofs.pairs.push_alone.Given as goal

abbrev pub invariant-loop-number : goal.invariant-loop-number
invariant-loop-number l = l.all.items ++ alone l.number (drop l.number l.of_b) ≡ l.fn.all.items ++ alone l.from (drop l.from l.of_b)

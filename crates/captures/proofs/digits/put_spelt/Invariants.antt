use Rattle.std.proofs.Common.{take, ◌+◌}
use Rattle.le.specs.Put.{Wrote}
use Rattle.captures.proofs.Pairs.{pair_bytes}
use Rattle.captures.proofs.digits.put_spelt.Given as goal

abbrev pub invariant-loop-i : goal.invariant-loop-i
invariant-loop-i l = Wrote l.initial.out l.at (take l.i (pair_bytes l.pairs)) l.out (l.at + l.i)

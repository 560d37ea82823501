use Rattle.std.proofs.Common.{◌≡◌, ◌+◌, drop}
use Rattle.differences.specs.First.{common}
use Rattle.differences.proofs.first.common.Given as goal

abbrev pub invariant-loop-number : goal.invariant-loop-number
invariant-loop-number l = l.number + common (drop l.number l.one) (drop l.number l.other) ≡ common l.one l.other

use Rattle.std.proofs.Common.{◌≤◌, ◌≡◌, drop}
use Rattle.path.specs.Path.{value}
use Rattle.path.proofs.value.Given as goal

abbrev pub invariant-loop-digit : goal.invariant-loop-digit
invariant-loop-digit l = record { small : l.number ≤ 8589934592; left : value l.number (drop l.digit-index l.digits) ≡ value 0 l.digits }

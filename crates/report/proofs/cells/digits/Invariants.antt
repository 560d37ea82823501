use Rattle.std.proofs.Common.{◌≡◌, ◌+◌, ◌-◌}
use Rattle.std.specs.Prelude.{max}
use Rattle.report.proofs.Digits.{count_on}
use Rattle.report.proofs.cells.digits.Given as goal

abbrev pub invariant-loop-count : goal.invariant-loop-count
invariant-loop-count l = count_on (65 - l.count) (max l.fn.base 2) l.rest + (l.count - 1) ≡ count_on 64 (max l.fn.base 2) l.fn.number

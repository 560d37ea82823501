use Rattle.std.proofs.Common.{arith}
use Rattle.std.specs.Prelude.{max}
use Rattle.report.proofs.Digits.{all_asked, count_on, counted}
use Rattle.report.proofs.cells.digits.Goals as goal

pub returns-clause-same : goal.returns-clause-same
returns-clause-same c = λ upper. counted (max c.args.base 2) upper c.args.number 64
    (all_asked (max c.args.base 2) c.loop-count.rest (count_on 64 (max c.args.base 2) c.args.number) c.loop-count.count (omega arith) c.loop-count.invariant)

use Rattle.std.proofs.Common.{◌≡◌, sym, ◌∙◌, arith}
use Rattle.differences.proofs.Front.{common_more, common_apart, common_end}
use Rattle.differences.proofs.first.common.Goals as goal

pub returns-then-one-number : goal.returns-then-one-number
returns-then-one-number c = sym (common_apart c.args.one.now c.args.other.now c.loop-number.number (omega arith) (omega arith) c.if-one-number.true) ∙ c.loop-number.invariant

pub loop-number-preserved : goal.loop-number-preserved
loop-number-preserved c = common_more c.args.one.now c.args.other.now c.loop-number.number (omega arith) (omega arith) c.if-one-number.false ∙ c.loop-number.invariant

pub returns : goal.returns
returns c =
    let most : c.min-most.result ≡ c.loop-number.number = omega arith in
    most ∙ sym (common_end c.args.one.now c.args.other.now c.loop-number.number (omega arith)) ∙ c.loop-number.invariant

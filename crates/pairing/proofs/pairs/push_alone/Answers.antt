use Rattle.std.proofs.Common.{sym, ◌∙◌}
use Rattle.pairing.proofs.Going.{turn}
use Rattle.pairing.proofs.Turns.{alone_more, alone_ends, alone_all}
use Rattle.pairing.proofs.pairs.push_alone.Goals as goal

pub returns-then-is_some : goal.returns-then-is_some
returns-then-is_some c = alone_ends c.args.of_b.now c.loop-number.number _ (turn _ _ _ c.loop-number-test.true) (sym c.is_some.ensures ∙ c.if-is_some.true) c.loop-number.invariant

pub loop-number-preserved : goal.loop-number-preserved
loop-number-preserved c = alone_more c.args.of_b.now c.loop-number.number _ (turn _ _ _ c.loop-number-test.true) (sym c.is_some.ensures ∙ c.if-is_some.false) c.in_ok-push.ensures.items c.loop-number.invariant

pub returns : goal.returns
returns c = alone_all c.args.of_b.now c.loop-number.number _ c.loop-number-test.false c.loop-number.invariant

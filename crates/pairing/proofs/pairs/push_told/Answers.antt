use Rattle.std.proofs.Common.{refl}
use Rattle.pairing.specs.Pairs.{told_one, told}
use Rattle.pairing.proofs.Going.{turn, numbered, all_numbered}
use Rattle.pairing.proofs.pairs.push_told.Goals as goal

pub loop-number-init : goal.loop-number-init
unfolding told
loop-number-init c = refl

pub loop-number-preserved : goal.loop-number-preserved
loop-number-preserved c = numbered (λ x. told_one c.args.of_b.now x.0 x.1) c.args.of_a.now c.loop-number.number _ (turn _ _ _ c.loop-number-test.true) c.in_ok-push_one.ensures c.loop-number.invariant

pub returns : goal.returns
returns c = all_numbered (λ x. told_one c.args.of_b.now x.0 x.1) c.args.of_a.now c.loop-number.number _ c.loop-number-test.false c.loop-number.invariant

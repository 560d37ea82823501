use Rattle.std.proofs.Common.{ap, ℕ, List, ◌++◌}
use Rattle.std.specs.List.{flat_map, enumerate_from}
use Rattle.pairing.specs.Pairs.{free_one, free}
use Rattle.pairing.proofs.Going.{turn, numbered, all_numbered}
use Rattle.pairing.proofs.pairs.free.Goals as goal

pub loop-number-init : goal.loop-number-init
unfolding free
loop-number-init c = ap (λ (l : List ℕ). l ++ flat_map (λ x. free_one x.0 x.1) (enumerate_from 0 c.args.partners.now)) c.new-all.ensures.items

pub loop-number-preserved : goal.loop-number-preserved
loop-number-preserved c = numbered (λ x. free_one x.0 x.1) c.args.partners.now c.loop-number.number _ (turn _ _ _ c.loop-number-test.true) c.in_ok-push_free.ensures c.loop-number.invariant

pub returns : goal.returns
returns c = all_numbered (λ x. free_one x.0 x.1) c.args.partners.now c.loop-number.number _ c.loop-number-test.false c.loop-number.invariant

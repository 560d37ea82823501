use Rattle.std.proofs.Common.{sym, ◌∙◌}
use Rattle.pairing.specs.Pairs.{seen}
use Rattle.pairing.proofs.Going.{turn}
use Rattle.pairing.proofs.Turns.{neighbours_more, neighbours_none}
use Rattle.pairing.proofs.pairs.Pairing.by_neighbour.Goals as goal

pub loop-one-preserved : goal.loop-one-preserved
loop-one-preserved c = neighbours_more c.args.b.now c.args.a.now c.loop-one.one c.loop-one.next (seen c.loop-one.self) (turn _ _ _ c.loop-one-test.true) c.join_next.ensures c.next_to-next.ensures ∙ c.loop-one.invariant

pub returns : goal.returns
returns c = sym (neighbours_none c.args.b.now c.args.a.now c.loop-one.one _ _ c.loop-one-test.false) ∙ c.loop-one.invariant

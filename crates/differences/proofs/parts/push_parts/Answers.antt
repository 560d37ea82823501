use Rattle.differences.proofs.Turns.{goes, falls, all_told}
use Rattle.differences.proofs.parts.push_parts.Goals as goal

pub loop-ours-smaller : goal.loop-ours-smaller
loop-ours-smaller c = falls c.loop-ours.ours.now c.loop-ours.theirs.now _ _ c.next.result c.next.ensures c.behind-ours.ensures c.behind-theirs.ensures (c.are_all_told.ensures.some c.loop-ours-test.true)

pub loop-ours-preserved : goal.loop-ours-preserved
loop-ours-preserved c =
    goes c.args.a.now c.args.b.now c.loop-ours.ours.now c.loop-ours.theirs.now _ _ c.next.result c.in_part.result _ _ _
    c.next.ensures c.in_part.ensures c.in_ok-push_told.ensures c.behind-ours.ensures c.behind-theirs.ensures c.loop-ours.invariant

pub returns : goal.returns
returns c = all_told c.args.a.now c.args.b.now c.loop-ours.ours.now c.loop-ours.theirs.now _ _ (c.are_all_told.ensures.all c.loop-ours-test.false) c.loop-ours.invariant

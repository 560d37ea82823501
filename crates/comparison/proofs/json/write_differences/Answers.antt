use Rattle.std.proofs.Common.{arith}
use Rattle.comparison.proofs.Lines.{goes_on, is_done, part_more, no_part, left_at, none_left}
use Rattle.comparison.proofs.json.write_differences.Goals as goal

pub loop-one-preserved : goal.loop-one-preserved
loop-one-preserved g c =
    goes_on _ c.loop-one.invariant (part_more c.loop-one.is_first _ _ _ (left_at c.args.all.now c.loop-one.one-index _ (omega arith))) c.in_ok-write_difference.ensures

pub returns : goal.returns
returns g c = is_done c.loop-one.invariant (no_part c.loop-one.is_first _ (none_left c.args.all.now c.loop-one.one-index (omega arith)))

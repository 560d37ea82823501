use Rattle.std.proofs.Common.{◌∙◌, arith}
use Rattle.picture.proofs.Passing.{behind_more, behind_here, behind_end}
use Rattle.picture.proofs.rows.behind.Goals as goal

pub returns-then-not-ends_by : goal.returns-then-not-ends_by
returns-then-not-ends_by c =
    behind_here c.args.start c.args.sections.now c.loop-ended.ended _ c.ends_by.result c.ends_by.ensures (omega arith) (grind (arith, c.if-not-ends_by.true)) ∙ c.loop-ended.invariant

pub loop-ended-preserved : goal.loop-ended-preserved
loop-ended-preserved c =
    behind_more c.args.start c.args.sections.now c.loop-ended.ended _ c.ends_by.result c.ends_by.ensures (omega arith) (grind (arith, c.if-not-ends_by.false)) ∙ c.loop-ended.invariant

pub returns : goal.returns
returns c = behind_end c.args.start c.args.sections.now c.loop-ended.ended (omega arith) ∙ c.loop-ended.invariant

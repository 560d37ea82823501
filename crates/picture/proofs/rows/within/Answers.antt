use Rattle.std.proofs.Common.{◌∙◌, arith}
use Rattle.picture.proofs.Passing.{within_more, within_stop, within_end}
use Rattle.picture.proofs.rows.within.Goals as goal

pub returns-then-section-end : goal.returns-then-section-end
returns-then-section-end c = within_stop c.args.end c.args.sections.now c.loop-begun.begun _ c.if-section-end.true (omega arith) ∙ c.loop-begun.invariant

pub loop-begun-preserved : goal.loop-begun-preserved
loop-begun-preserved c = within_more c.args.end c.args.sections.now c.loop-begun.begun _ c.if-section-end.false (omega arith) ∙ c.loop-begun.invariant

pub returns : goal.returns
returns c = within_end c.args.end c.args.sections.now c.loop-begun.begun (omega arith) ∙ c.loop-begun.invariant

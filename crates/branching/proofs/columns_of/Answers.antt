use Rattle.std.proofs.Common.{sym, ap, ◌∙◌}
use Rattle.report.specs.Table.{fitted_on}
use Rattle.report.proofs.Widths.{fitted_more}
use Rattle.branching.proofs.Going.{something_here, nothing_left}
use Rattle.branching.proofs.columns_of.Goals as goal

pub loop-start-preserved : goal.loop-start-preserved
loop-start-preserved c =
    fitted_more c.loop-start.columns (something_here c.args.upload.now c.args.starts.now c.loop-start.start-index c.loop-start-test.true _ c.in-Some.ensures) c.fit.ensures c.loop-start.invariant

pub returns : goal.returns
unfolding fitted_on
returns c = ap (fitted_on c.loop-start.columns) (sym (nothing_left c.args.upload.now c.args.starts.now c.loop-start.start-index c.loop-start-test.false)) ∙ c.loop-start.invariant

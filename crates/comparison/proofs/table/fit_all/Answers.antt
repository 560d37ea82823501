use Rattle.std.proofs.Common.{sym, ◌∙◌, arith}
use Rattle.comparison.proofs.Lines.{fit_turn, no_fit, none_left}
use Rattle.comparison.proofs.table.fit_all.Goals as goal

pub loop-line-preserved : goal.loop-line-preserved
loop-line-preserved c =
    fit_turn c.loop-line.fits c.or_headings.result c.in_ok-fit.field-0 c.args.lines.now c.loop-line.line-index _ _ (omega arith) c.or_headings.ensures c.in_ok-fit.ensures c.loop-line.invariant

pub returns : goal.returns
returns c = sym (no_fit c.loop-line.fits _ (none_left c.args.lines.now c.loop-line.line-index (omega arith))) ∙ c.loop-line.invariant

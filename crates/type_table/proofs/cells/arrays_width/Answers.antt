use Rattle.std.proofs.Common.{◌∙◌, ap}
use Rattle.report.specs.Report.{plus}
use Rattle.type_table.proofs.Rows.{array_more, array_all}
use Rattle.type_table.proofs.cells.arrays_width.Goals as goal

pub loop-one-preserved : goal.loop-one-preserved
loop-one-preserved c = record {
  can = tt;
  ends = tt;
  width = array_more c.loop-one.width c.in-Some.ensures.steps (c.saturating_add-width.ensures ∙ ap (plus c.loop-one.width) c.array_width.ensures) c.loop-one.invariant.width;
}

pub returns : goal.returns
returns c = array_all c.loop-one.width c.in-None.ensures.steps.0 c.loop-one.invariant.width

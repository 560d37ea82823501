use Rattle.std.proofs.Common.{arith}
use Rattle.report.proofs.Going.{goes, ends}
use Rattle.comparison.specs.Table.{line_text}
use Rattle.comparison.proofs.Lines.{left_at, none_left}
use Rattle.comparison.proofs.table.Widths.write_lines.Goals as goal

pub loop-line-preserved : goal.loop-line-preserved
loop-line-preserved g c = goes (line_text c.args.self) (left_at c.args.lines.now c.loop-line.line-index _ (omega arith)) c.loop-line.invariant c.in_ok-write_line.ensures

pub returns : goal.returns
returns g c = ends (line_text c.args.self) (none_left c.args.lines.now c.loop-line.line-index (omega arith)) c.loop-line.invariant

use Rattle.std.proofs.Common.{arith}
use Rattle.std.proofs.lemmas.List.{drop_all}
use Rattle.report.proofs.Going.{goes, ends}
use Rattle.bind_report.specs.Table.{line_text}
use Rattle.bind_report.proofs.Left.{left_at}
use Rattle.bind_report.proofs.table.Columns.write_lines.Goals as goal

pub loop-bound-preserved : goal.loop-bound-preserved
loop-bound-preserved g c = goes (line_text c.args.self.now) (left_at c.args.bounds.now c.loop-bound.bound-index _ (omega arith)) c.loop-bound.invariant c.in_ok-write_line.ensures

pub returns : goal.returns
returns g c = ends (line_text c.args.self.now) (drop_all c.loop-bound.bound-index c.args.bounds.now (omega arith)) c.loop-bound.invariant

use Rattle.std.proofs.Common.{drop}
use Rattle.std.specs.List.{flat_map}
use Rattle.report.proofs.Going.{Going}
use Rattle.bind_report.specs.Table.{line_text}
use Rattle.bind_report.proofs.table.Columns.write_lines.Given as goal

abbrev pub invariant-loop-bound : goal.invariant-loop-bound
invariant-loop-bound g l =
    Going (g.W.Write.contents l.fn.out) (g.W.Write.contents l.out) (flat_map (line_text l.self) (drop l.bound-index l.bounds)) (flat_map (line_text l.self) l.bounds)

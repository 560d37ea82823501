use Rattle.std.proofs.Common.{drop}
use Rattle.std.specs.List.{flat_map}
use Rattle.report.proofs.Going.{Going}
use Rattle.comparison.specs.Table.{line_text}
use Rattle.comparison.proofs.table.Widths.write_lines.Given as goal

abbrev pub invariant-loop-line : goal.invariant-loop-line
invariant-loop-line g l = Going (g.W.Write.contents l.fn.out) (g.W.Write.contents l.out) (flat_map (line_text l.self) (drop l.line-index l.lines)) (flat_map (line_text l.self) l.lines)

use Rattle.std.proofs.Common.{drop}
use Rattle.std.specs.List.{flat_map}
use Rattle.report.proofs.Going.{Going}
use Rattle.bind_report.specs.Json.{json_line}
use Rattle.bind_report.proofs.json.write_lines.Given as goal

abbrev pub invariant-loop-bound : goal.invariant-loop-bound
invariant-loop-bound g l = Going (g.W.Write.contents l.fn.out) (g.W.Write.contents l.out) (flat_map json_line (drop l.bound-index l.bounds)) (flat_map json_line l.bounds)

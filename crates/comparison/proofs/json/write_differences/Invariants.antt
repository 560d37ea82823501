use Rattle.std.proofs.Common.{true, drop}
use Rattle.report.proofs.Going.{Going}
use Rattle.comparison.specs.Json.{parts_json}
use Rattle.comparison.proofs.json.write_differences.Given as goal

abbrev pub invariant-loop-one : goal.invariant-loop-one
invariant-loop-one g l = Going (g.W.Write.contents l.fn.out) (g.W.Write.contents l.out) (parts_json l.is_first (drop l.one-index l.all)) (parts_json true l.all)

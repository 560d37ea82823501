use Rattle.std.proofs.Common.{drop, map}
use Rattle.pairing.specs.Rows.{row_of, rows_in}
use Rattle.report.proofs.Going.{Going}
use Rattle.comparison.specs.Entries.{together}
use Rattle.comparison.specs.Json.{json_lines}
use Rattle.comparison.proofs.json.write.Given as goal

abbrev pub invariant-loop-pair : goal.invariant-loop-pair
invariant-loop-pair g l =
    Going (g.W.Write.contents l.fn.out) (g.W.Write.contents l.out) (json_lines l.rows.mode l.before (map (row_of l.rows.a.now l.rows.b.now) (drop l.pair-index l.rows.pairs.now)))
    (json_lines l.rows.mode together (rows_in l.rows))

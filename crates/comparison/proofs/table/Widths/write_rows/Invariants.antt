use Rattle.std.proofs.Common.{drop, map}
use Rattle.pairing.specs.Rows.{row_of, rows_in}
use Rattle.report.proofs.Going.{Going}
use Rattle.comparison.specs.Entries.{together}
use Rattle.comparison.specs.Table.{table_lines}
use Rattle.comparison.proofs.table.Widths.write_rows.Given as goal

abbrev pub invariant-loop-pair : goal.invariant-loop-pair
invariant-loop-pair g l =
    Going (g.W.Write.contents l.fn.out) (g.W.Write.contents l.out) (table_lines l.self l.rows.mode l.before (map (row_of l.rows.a.now l.rows.b.now) (drop l.pair-index l.rows.pairs.now)))
    (table_lines l.self l.rows.mode together (rows_in l.rows))

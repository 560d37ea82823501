use Rattle.std.proofs.Common.{◌≡◌, None, drop, map}
use Rattle.pairing.specs.Rows.{row_of, rows_in}
use Rattle.comparison.specs.Entries.{together}
use Rattle.comparison.specs.Table.{widths_on}
use Rattle.comparison.proofs.table.widths_of.Given as goal

abbrev pub invariant-loop-pair : goal.invariant-loop-pair
invariant-loop-pair l =
    widths_on l.rows.mode l.before l.widths (map (row_of l.rows.a.now l.rows.b.now) (drop l.pair-index l.rows.pairs.now)) ≡ widths_on l.rows.mode together None (rows_in l.rows)

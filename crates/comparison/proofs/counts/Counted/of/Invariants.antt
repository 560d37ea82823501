use Rattle.std.proofs.Common.{◌≡◌, drop, map}
use Rattle.comparison.specs.Counts.{nothing, counted_on}
use Rattle.pairing.specs.Rows.{row_of, rows_in}
use Rattle.comparison.proofs.counts.Counted.of.Given as goal

abbrev pub invariant-loop-pair : goal.invariant-loop-pair
invariant-loop-pair l = counted_on l.counted (map (row_of l.rows.a.now l.rows.b.now) (drop l.pair-index l.rows.pairs.now)) ≡ counted_on nothing (rows_in l.rows)

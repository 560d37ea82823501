use Rattle.std.proofs.Common.{◌≡◌, drop, map}
use Rattle.std.specs.List.{list_all}
use Rattle.pairing.specs.Rows.{stays, rows_in, row_of}
use Rattle.pairing.proofs.rows.Rows.are_alike.Given as goal

abbrev pub invariant-loop-pair : goal.invariant-loop-pair
invariant-loop-pair l = list_all stays (map (row_of l.self.a.now l.self.b.now) (drop l.pair-index l.self.pairs.now)) ≡ list_all stays (rows_in l.self)

use Rattle.std.proofs.Common.{◌≡◌, ◌++◌, drop}
use Rattle.std.specs.List.{flat_map, enumerate_from}
use Rattle.pairing.specs.Pairs.{told_one, told}
use Rattle.pairing.proofs.pairs.push_told.Given as goal

abbrev pub invariant-loop-number : goal.invariant-loop-number
invariant-loop-number l = l.all.items ++ flat_map (λ x. told_one l.of_b x.0 x.1) (enumerate_from l.number (drop l.number l.of_a)) ≡ l.fn.all.items ++ told l.of_a l.of_b

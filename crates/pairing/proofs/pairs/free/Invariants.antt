use Rattle.std.proofs.Common.{◌≡◌, ◌++◌, drop}
use Rattle.std.specs.List.{flat_map, enumerate_from}
use Rattle.pairing.specs.Pairs.{free_one, free}
use Rattle.pairing.proofs.pairs.free.Given as goal

abbrev pub invariant-loop-number : goal.invariant-loop-number
invariant-loop-number l = l.all.items ++ flat_map (λ x. free_one x.0 x.1) (enumerate_from l.number (drop l.number l.partners)) ≡ free l.partners

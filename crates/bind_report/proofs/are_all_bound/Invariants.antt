use Rattle.std.proofs.Common.{◌≡◌, drop}
use Rattle.bind_report.specs.Words.{are_all_bound}
use Rattle.bind_report.proofs.are_all_bound.Given as goal

abbrev pub invariant-loop-bound : goal.invariant-loop-bound
invariant-loop-bound l = are_all_bound (drop l.bound-index l.bounds) ≡ are_all_bound l.bounds

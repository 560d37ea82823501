use Rattle.std.proofs.Common.{◌≡◌, drop}
use Rattle.bind_report.specs.Table.{columns_of, fitted_on}
use Rattle.bind_report.proofs.table.columns_of.Given as goal

abbrev pub invariant-loop-bound : goal.invariant-loop-bound
invariant-loop-bound l = fitted_on l.columns (drop l.bound-index l.bounds) ≡ columns_of l.bounds

use Rattle.std.proofs.Common.{◌≡◌, drop}
use Rattle.report.specs.Table.{fitted_on, columns_of}
use Rattle.branching.specs.Lines.{entries_at}
use Rattle.branching.proofs.columns_of.Given as goal

abbrev pub invariant-loop-start : goal.invariant-loop-start
invariant-loop-start l = fitted_on l.columns (entries_at l.upload (drop l.start-index l.starts)) ≡ columns_of (entries_at l.upload l.starts)

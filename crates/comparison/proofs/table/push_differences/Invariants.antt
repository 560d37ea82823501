use Rattle.std.proofs.Common.{◌≡◌, ◌++◌, drop}
use Rattle.comparison.specs.Table.{differ_lines}
use Rattle.comparison.proofs.table.push_differences.Given as goal

abbrev pub invariant-loop-one : goal.invariant-loop-one
invariant-loop-one l = l.all.items ++ differ_lines l.row (drop l.one-index l.differences) ≡ l.fn.all.items ++ differ_lines l.row l.differences

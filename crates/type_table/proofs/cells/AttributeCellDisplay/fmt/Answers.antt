use Rattle.std.proofs.Common.{codes, sym, ap, rules}
use Rattle.std.proofs.Output.{has_written_of_eq}
use Rattle.type_tree.specs.Joined.{joined}
use Rattle.type_table.specs.Cells.{attribute_cell}
use Rattle.type_table.proofs.cells.AttributeCellDisplay.fmt.Goals as goal

pub returns-in-None-clause-writes : goal.returns-in-None-clause-writes
unfolding joined
returns-in-None-clause-writes g c = λ plain ok. has_written_of_eq _ _ _ _ _ (ap (joined (codes "; ") attribute_cell) (sym c.in-None.ensures.steps.0.0)) (search rules)

pub returns-in-Some-clause-writes : goal.returns-in-Some-clause-writes
unfolding joined
returns-in-Some-clause-writes g c = λ plain ok. has_written_of_eq _ _ _ _ _ (ap (joined (codes "; ") attribute_cell) (sym c.in-Some.ensures.steps.0)) (c.write.ensures.writes plain ok)

use Rattle.std.proofs.Common.{sym, ap, ◌∙◌, rules}
use Rattle.std.proofs.Output.{has_written_of_eq}
use Rattle.type_table.specs.Cells.{array_cells}
use Rattle.type_table.proofs.Rows.{array_closed}
use Rattle.type_table.proofs.cells.ArrayCellDisplay.fmt.Goals as goal

pub returns-in-None-clause-writes : goal.returns-in-None-clause-writes
unfolding array_cells
returns-in-None-clause-writes g c = λ plain ok. has_written_of_eq _ _ _ _ _ (ap array_cells (sym c.in-None.ensures.steps.0)) (search rules)

pub returns-in-Some-clause-writes : goal.returns-in-Some-clause-writes
returns-in-Some-clause-writes g c = λ plain ok. has_written_of_eq _ _ _ _ _ (array_closed _ _ ∙ ap array_cells (sym c.in-Some.ensures.steps)) (c.write.ensures.writes plain ok)

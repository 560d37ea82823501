use Rattle.type_table.proofs.Levels.{rows_meant}
use Rattle.type_table.proofs.theorems.rows_meant.Goals as goal

pub returns : goal.returns
returns c = rows_meant

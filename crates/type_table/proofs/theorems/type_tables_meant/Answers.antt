use Rattle.type_table.proofs.Aligned.{type_tables_meant}
use Rattle.type_table.proofs.theorems.type_tables_meant.Goals as goal

pub returns : goal.returns
returns c = type_tables_meant

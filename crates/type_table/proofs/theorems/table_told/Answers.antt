use Rattle.type_table.proofs.Sample.{table_told}
use Rattle.type_table.proofs.theorems.table_told.Goals as goal

pub returns : goal.returns
returns c = table_told

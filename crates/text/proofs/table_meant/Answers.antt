use Rattle.text.proofs.Theory.{table_meant}
use Rattle.text.proofs.table_meant.Goals as goal

pub returns : goal.returns
returns c = table_meant

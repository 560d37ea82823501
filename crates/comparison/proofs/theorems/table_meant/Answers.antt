use Rattle.comparison.proofs.TableWords.{table_meant}
use Rattle.comparison.proofs.theorems.table_meant.Goals as goal

pub returns : goal.returns
returns c = table_meant

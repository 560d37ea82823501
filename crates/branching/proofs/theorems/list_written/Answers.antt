use Rattle.branching.proofs.Tables.{list_written}
use Rattle.branching.proofs.theorems.list_written.Goals as goal

pub returns : goal.returns
returns c = list_written

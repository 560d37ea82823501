use Rattle.branching.proofs.Meant.{sorted_written}
use Rattle.branching.proofs.theorems.sorted_written.Goals as goal

pub returns : goal.returns
returns c = sorted_written

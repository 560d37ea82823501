use Rattle.branching.proofs.Meant.{branch_written}
use Rattle.branching.proofs.theorems.branch_written.Goals as goal

pub returns : goal.returns
returns c = branch_written

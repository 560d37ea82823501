use Rattle.differences.proofs.Meant.{differences_meant}
use Rattle.differences.proofs.theorems.differences_meant.Goals as goal

pub returns : goal.returns
returns c = differences_meant

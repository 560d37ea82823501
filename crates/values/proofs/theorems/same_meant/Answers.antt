use Rattle.values.proofs.Same.{same_meant}
use Rattle.values.proofs.theorems.same_meant.Goals as goal

pub returns : goal.returns
returns c = same_meant

use Rattle.values.proofs.Written.{values_meant}
use Rattle.values.proofs.theorems.values_meant.Goals as goal

pub returns : goal.returns
returns c = values_meant

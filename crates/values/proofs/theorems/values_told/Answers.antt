use Rattle.values.proofs.Told.{values_told}
use Rattle.values.proofs.theorems.values_told.Goals as goal

pub returns : goal.returns
returns c = values_told

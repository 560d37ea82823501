use Rattle.told.proofs.TypeMeaning.{types_told}
use Rattle.told.proofs.theorems.types_told.Goals as goal

pub returns : goal.returns
returns c = types_told

use Rattle.told.proofs.TypeMeaning.{arrays_told}
use Rattle.told.proofs.theorems.arrays_told.Goals as goal

pub returns : goal.returns
returns c = arrays_told

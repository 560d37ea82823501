use Rattle.data_type.proofs.Numbers.{arrays_meant}
use Rattle.data_type.proofs.theorems.arrays_meant.Goals as goal

pub returns : goal.returns
returns c = arrays_meant

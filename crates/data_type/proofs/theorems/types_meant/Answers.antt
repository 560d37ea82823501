use Rattle.data_type.proofs.Meant.{types_meant}
use Rattle.data_type.proofs.theorems.types_meant.Goals as goal

pub returns : goal.returns
returns c = types_meant

use Rattle.data_type.proofs.InModes.{types_checked}
use Rattle.data_type.proofs.theorems.types_checked.Goals as goal

pub returns : goal.returns
returns c = types_checked

use Rattle.data_type.proofs.Stands.{types_stand}
use Rattle.data_type.proofs.theorems.types_stand.Goals as goal

pub returns : goal.returns
returns c = types_stand

use Rattle.data_type.proofs.Refused.{types_refused}
use Rattle.data_type.proofs.theorems.types_refused.Goals as goal

pub returns : goal.returns
returns c = types_refused

use Rattle.data_type.proofs.Chain.{types_nest}
use Rattle.data_type.proofs.theorems.types_nest.Goals as goal

pub returns : goal.returns
returns c = types_nest

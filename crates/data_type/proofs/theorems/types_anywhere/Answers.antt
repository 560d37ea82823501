use Rattle.data_type.proofs.Anywhere.{types_anywhere}
use Rattle.data_type.proofs.theorems.types_anywhere.Goals as goal

pub returns : goal.returns
returns c = types_anywhere

use Rattle.types_regrown.proofs.Around.{shut}
use Rattle.types_regrown.proofs.types_shut_out.Goals as goal

pub returns : goal.returns
returns c = shut

use Rattle.fields_regrown.proofs.Around.{shut}
use Rattle.fields_regrown.proofs.fields_shut_out.Goals as goal

pub returns : goal.returns
returns c = shut

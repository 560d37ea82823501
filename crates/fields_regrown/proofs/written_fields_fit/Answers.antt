use Rattle.fields_regrown.proofs.Around.{reached}
use Rattle.fields_regrown.proofs.written_fields_fit.Goals as goal

pub returns : goal.returns
returns c = reached

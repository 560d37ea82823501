use Rattle.fields_regrown.proofs.Around.{by_name}
use Rattle.fields_regrown.proofs.fields_by_name.Goals as goal

pub returns : goal.returns
returns c = by_name

use Rattle.fields_regrown.proofs.Faithful.{faithful}
use Rattle.fields_regrown.proofs.fields_faithful.Goals as goal

pub returns : goal.returns
returns c = faithful

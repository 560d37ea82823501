use Rattle.values.proofs.Told.{records_told}
use Rattle.values.proofs.theorems.records_told.Goals as goal

pub returns : goal.returns
returns c = records_told

use Rattle.pairing.proofs.Told.{rows_meant}
use Rattle.pairing.proofs.theorems.rows_meant.Goals as goal

pub returns : goal.returns
returns c = rows_meant

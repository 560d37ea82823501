use Rattle.pairing.proofs.Twins.{alike_meant}
use Rattle.pairing.proofs.theorems.alike_meant.Goals as goal

pub returns : goal.returns
returns c = alike_meant

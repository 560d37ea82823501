use Rattle.bind.proofs.Meaning.{found_meant}
use Rattle.bind.proofs.theorems.found_meant.Goals as goal

pub returns : goal.returns
returns c = found_meant

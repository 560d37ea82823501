use Rattle.wording.proofs.Told.{numbers_told}
use Rattle.wording.proofs.theorems.numbers_told.Goals as goal

pub returns : goal.returns
returns c = numbers_told

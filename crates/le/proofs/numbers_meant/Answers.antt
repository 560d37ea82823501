use Rattle.le.proofs.Numbers.{numbers_meant}
use Rattle.le.proofs.numbers_meant.Goals as goal

pub returns : goal.returns
returns c = numbers_meant

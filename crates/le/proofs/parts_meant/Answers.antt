use Rattle.le.proofs.Numbers.{parts_meant}
use Rattle.le.proofs.parts_meant.Goals as goal

pub returns : goal.returns
returns c = parts_meant

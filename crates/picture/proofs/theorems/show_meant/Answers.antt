use Rattle.picture.proofs.Whole.{show_meant}
use Rattle.picture.proofs.theorems.show_meant.Goals as goal

pub returns : goal.returns
returns c = show_meant

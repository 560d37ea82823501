use Rattle.picture.proofs.Words.{colours_meant}
use Rattle.picture.proofs.theorems.colours_meant.Goals as goal

pub returns : goal.returns
returns c = colours_meant

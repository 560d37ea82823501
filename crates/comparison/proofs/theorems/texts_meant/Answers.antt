use Rattle.comparison.proofs.Meant.{texts_meant}
use Rattle.comparison.proofs.theorems.texts_meant.Goals as goal

pub returns : goal.returns
returns c = texts_meant

use Rattle.type_tree.proofs.Levels.{levels_meant}
use Rattle.type_tree.proofs.theorems.levels_meant.Goals as goal

pub returns : goal.returns
returns c = levels_meant

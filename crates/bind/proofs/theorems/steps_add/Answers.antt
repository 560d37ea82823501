use Rattle.bind.proofs.Adding.{steps_add}
use Rattle.bind.proofs.theorems.steps_add.Goals as goal

pub returns : goal.returns
returns c = steps_add

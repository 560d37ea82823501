use Rattle.entry.proofs.Theorems.{steps_enough}
use Rattle.entry.proofs.steps_enough.Goals as goal

pub returns : goal.returns
returns c = steps_enough

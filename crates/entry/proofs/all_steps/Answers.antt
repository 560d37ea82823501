use Rattle.entry.proofs.Theorems.{all_steps}
use Rattle.entry.proofs.all_steps.Goals as goal

pub returns : goal.returns
returns c = all_steps

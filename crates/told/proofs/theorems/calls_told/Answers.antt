use Rattle.told.proofs.Laws.{calls_told}
use Rattle.told.proofs.theorems.calls_told.Goals as goal

pub returns : goal.returns
returns c = calls_told

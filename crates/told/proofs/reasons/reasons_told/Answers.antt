use Rattle.told.proofs.Explained.{reasons_told}
use Rattle.told.proofs.reasons.reasons_told.Goals as goal

pub returns : goal.returns
returns c = reasons_told

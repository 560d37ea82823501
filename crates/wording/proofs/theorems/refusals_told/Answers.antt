use Rattle.wording.proofs.Told.{refusals_told}
use Rattle.wording.proofs.theorems.refusals_told.Goals as goal

pub returns : goal.returns
returns c = refusals_told

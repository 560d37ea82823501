use Rattle.wording.proofs.Read.{strings_shown}
use Rattle.wording.proofs.theorems.strings_shown.Goals as goal

pub returns : goal.returns
returns c = strings_shown

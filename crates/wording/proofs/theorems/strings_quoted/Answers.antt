use Rattle.wording.proofs.Read.{strings_quoted}
use Rattle.wording.proofs.theorems.strings_quoted.Goals as goal

pub returns : goal.returns
returns c = strings_quoted

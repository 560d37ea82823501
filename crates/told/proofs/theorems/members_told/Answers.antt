use Rattle.told.proofs.TypeMeaning.{members_told}
use Rattle.told.proofs.theorems.members_told.Goals as goal

pub returns : goal.returns
returns c = members_told

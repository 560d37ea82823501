use Rattle.type_find.proofs.Meaning.{same_find}
use Rattle.type_find.proofs.same_find.Goals as goal

pub returns : goal.returns
returns c = same_find

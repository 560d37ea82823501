use Rattle.names.proofs.Meaning.{same_by_letters}
use Rattle.names.proofs.same_by_letters.Goals as goal

pub returns : goal.returns
returns c = same_by_letters

use Rattle.type_find.proofs.Meaning.{find_meant}
use Rattle.type_find.proofs.find_meant.Goals as goal

pub returns : goal.returns
returns c = find_meant

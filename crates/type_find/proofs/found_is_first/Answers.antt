use Rattle.type_find.proofs.Meaning.{found_is_first}
use Rattle.type_find.proofs.found_is_first.Goals as goal

pub returns : goal.returns
returns c = found_is_first

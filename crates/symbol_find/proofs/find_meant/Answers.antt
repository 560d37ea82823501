use Rattle.symbol_find.proofs.Meaning.{find_meant}
use Rattle.symbol_find.proofs.find_meant.Goals as goal

pub returns : goal.returns
returns c = find_meant

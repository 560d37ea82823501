use Rattle.told.proofs.Meaning.{symbols_told}
use Rattle.told.proofs.theorems.symbols_told.Goals as goal

pub returns : goal.returns
returns c = symbols_told

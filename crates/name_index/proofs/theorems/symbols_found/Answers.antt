use Rattle.name_index.proofs.Symbols.{symbols_found}
use Rattle.name_index.proofs.theorems.symbols_found.Goals as goal

pub returns : goal.returns
returns c = symbols_found

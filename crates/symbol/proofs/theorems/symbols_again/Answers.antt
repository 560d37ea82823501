use Rattle.symbol.proofs.Again.{symbols_again}
use Rattle.symbol.proofs.theorems.symbols_again.Goals as goal

pub returns : goal.returns
returns c = symbols_again

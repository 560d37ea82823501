use Rattle.symbol.proofs.Again.{symbols_cut}
use Rattle.symbol.proofs.theorems.symbols_cut.Goals as goal

pub returns : goal.returns
returns c = symbols_cut

use Rattle.symbol.proofs.ReadBack.{symbols_read_back}
use Rattle.symbol.proofs.theorems.symbols_read_back.Goals as goal

pub returns : goal.returns
returns c = symbols_read_back

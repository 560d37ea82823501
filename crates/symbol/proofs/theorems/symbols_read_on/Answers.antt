use Rattle.symbol.proofs.ReadOn.{symbols_read_on}
use Rattle.symbol.proofs.theorems.symbols_read_on.Goals as goal

pub returns : goal.returns
returns c = symbols_read_on

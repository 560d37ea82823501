use Rattle.symbol.proofs.Barred.{symbols_barred}
use Rattle.symbol.proofs.theorems.symbols_barred.Goals as goal

pub returns : goal.returns
returns c = symbols_barred

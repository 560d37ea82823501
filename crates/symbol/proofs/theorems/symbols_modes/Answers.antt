use Rattle.symbol.proofs.Modes.{symbols_modes}
use Rattle.symbol.proofs.theorems.symbols_modes.Goals as goal

pub returns : goal.returns
returns c = symbols_modes

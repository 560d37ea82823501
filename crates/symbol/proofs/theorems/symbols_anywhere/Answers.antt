use Rattle.symbol.proofs.Anywhere.{symbols_anywhere}
use Rattle.symbol.proofs.theorems.symbols_anywhere.Goals as goal

pub returns : goal.returns
returns c = symbols_anywhere

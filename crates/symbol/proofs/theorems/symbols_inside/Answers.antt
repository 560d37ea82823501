use Rattle.symbol.proofs.Lies.{symbols_inside}
use Rattle.symbol.proofs.theorems.symbols_inside.Goals as goal

pub returns : goal.returns
returns c = symbols_inside

use Rattle.symbol.proofs.Laws.{symbols_whole}
use Rattle.symbol.proofs.theorems.symbols_whole.Goals as goal

pub returns : goal.returns
returns c = symbols_whole

use Rattle.symbol.proofs.GivenBack.{symbols_given_back}
use Rattle.symbol.proofs.theorems.symbols_given_back.Goals as goal

pub returns : goal.returns
returns c = symbols_given_back

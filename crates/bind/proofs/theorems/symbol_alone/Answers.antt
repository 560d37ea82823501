use Rattle.bind.proofs.Alone.{symbol_alone}
use Rattle.bind.proofs.theorems.symbol_alone.Goals as goal

pub returns : goal.returns
returns c = symbol_alone

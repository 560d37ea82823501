use Rattle.symbols_damaged.proofs.ShutsOut.{symbols_shut_out}
use Rattle.symbols_damaged.proofs.symbols_shut_out.Goals as goal

pub returns : goal.returns
returns c = symbols_shut_out

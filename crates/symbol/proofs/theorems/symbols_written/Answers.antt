use Rattle.symbol.proofs.Writable.{symbols_written}
use Rattle.symbol.proofs.theorems.symbols_written.Goals as goal

pub returns : goal.returns
returns c = symbols_written

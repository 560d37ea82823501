use Rattle.symbols_regrown.proofs.Around.{reached}
use Rattle.symbols_regrown.proofs.written_symbols_fit.Goals as goal

pub returns : goal.returns
returns c = reached

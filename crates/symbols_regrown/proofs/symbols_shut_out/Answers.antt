use Rattle.symbols_regrown.proofs.Around.{shut}
use Rattle.symbols_regrown.proofs.symbols_shut_out.Goals as goal

pub returns : goal.returns
returns c = shut

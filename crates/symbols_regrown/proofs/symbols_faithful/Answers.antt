use Rattle.symbols_regrown.proofs.Faithful.{faithful}
use Rattle.symbols_regrown.proofs.symbols_faithful.Goals as goal

pub returns : goal.returns
returns c = faithful

use Rattle.symbols_regrown.proofs.Around.{by_name}
use Rattle.symbols_regrown.proofs.symbols_by_name.Goals as goal

pub returns : goal.returns
returns c = by_name

use Rattle.symbols_damaged.proofs.Finding.{attributes_stay}
use Rattle.symbols_damaged.proofs.attributes_stay.Goals as goal

pub returns : goal.returns
returns c = attributes_stay

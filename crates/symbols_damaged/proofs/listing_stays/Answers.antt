use Rattle.symbols_damaged.proofs.Listed.{listing_stays}
use Rattle.symbols_damaged.proofs.listing_stays.Goals as goal

pub returns : goal.returns
returns c = listing_stays

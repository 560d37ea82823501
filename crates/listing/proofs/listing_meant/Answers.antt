use Rattle.listing.proofs.Meaning.{listing_meant}
use Rattle.listing.proofs.listing_meant.Goals as goal

pub returns : goal.returns
returns c = listing_meant

use Rattle.bind_told.proofs.Meaning.{addresses_told}
use Rattle.bind_told.proofs.addresses_told.Goals as goal

pub returns : goal.returns
returns c = addresses_told

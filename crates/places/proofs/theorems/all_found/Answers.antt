use Rattle.places.proofs.Found.{all_found}
use Rattle.places.proofs.theorems.all_found.Goals as goal

pub returns : goal.returns
returns c = all_found

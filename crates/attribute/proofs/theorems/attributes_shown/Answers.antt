use Rattle.attribute.proofs.Asked.{attributes_shown}
use Rattle.attribute.proofs.theorems.attributes_shown.Goals as goal

pub returns : goal.returns
returns c = attributes_shown

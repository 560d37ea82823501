use Rattle.attribute.proofs.Asked.{attributes_named}
use Rattle.attribute.proofs.theorems.attributes_named.Goals as goal

pub returns : goal.returns
returns c = attributes_named

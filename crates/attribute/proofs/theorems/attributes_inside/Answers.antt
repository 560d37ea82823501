use Rattle.attribute.proofs.Inside.{attributes_inside}
use Rattle.attribute.proofs.theorems.attributes_inside.Goals as goal

pub returns : goal.returns
returns c = attributes_inside

use Rattle.attribute.proofs.BlockMeant.{attributes_refused}
use Rattle.attribute.proofs.theorems.attributes_refused.Goals as goal

pub returns : goal.returns
returns c = attributes_refused

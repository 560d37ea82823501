use Rattle.attribute.proofs.Asked.{one_named}
use Rattle.attribute.proofs.theorems.one_named.Goals as goal

pub returns : goal.returns
returns c = one_named

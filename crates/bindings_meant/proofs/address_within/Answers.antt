use Rattle.bindings_meant.proofs.Nesting.{address_within}
use Rattle.bindings_meant.proofs.address_within.Goals as goal

pub returns : goal.returns
returns c = address_within

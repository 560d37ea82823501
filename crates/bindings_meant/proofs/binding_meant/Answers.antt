use Rattle.bindings_meant.proofs.Reaches.{binding_meant}
use Rattle.bindings_meant.proofs.binding_meant.Goals as goal

pub returns : goal.returns
returns c = binding_meant

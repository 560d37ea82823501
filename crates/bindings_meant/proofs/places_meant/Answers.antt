use Rattle.bindings_meant.proofs.Places.{places_meant}
use Rattle.bindings_meant.proofs.places_meant.Goals as goal

pub returns : goal.returns
returns c = places_meant

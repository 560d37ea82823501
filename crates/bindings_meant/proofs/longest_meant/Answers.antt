use Rattle.bindings_meant.proofs.Longest.{longest_meant}
use Rattle.bindings_meant.proofs.longest_meant.Goals as goal

pub returns : goal.returns
returns c = longest_meant

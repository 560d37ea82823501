use Rattle.bindings_meant.proofs.Entries.{entries_meant}
use Rattle.bindings_meant.proofs.entries_meant.Goals as goal

pub returns : goal.returns
returns c = entries_meant

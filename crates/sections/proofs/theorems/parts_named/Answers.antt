use Rattle.sections.proofs.Named.{parts_named}
use Rattle.sections.proofs.theorems.parts_named.Goals as goal

pub returns : goal.returns
returns c = parts_named

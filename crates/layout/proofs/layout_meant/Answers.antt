use Rattle.layout.proofs.Meant.{layout_meant}
use Rattle.layout.proofs.layout_meant.Goals as goal

pub returns : goal.returns
returns c = layout_meant

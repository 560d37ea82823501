use Rattle.path.proofs.Texts.{parts_meant}
use Rattle.path.proofs.parts_meant.Goals as goal

pub returns : goal.returns
returns c = parts_meant

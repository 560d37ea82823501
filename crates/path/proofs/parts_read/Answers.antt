use Rattle.path.proofs.Meaning.{parts_read}
use Rattle.path.proofs.parts_read.Goals as goal

pub returns : goal.returns
returns c = parts_read

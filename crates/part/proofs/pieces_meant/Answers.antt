use Rattle.part.proofs.Meant.{pieces_meant}
use Rattle.part.proofs.pieces_meant.Goals as goal

pub returns : goal.returns
returns c = pieces_meant

use Rattle.told.proofs.Laws.{one_writing}
use Rattle.told.proofs.theorems.one_writing.Goals as goal

pub returns : goal.returns
returns c = one_writing

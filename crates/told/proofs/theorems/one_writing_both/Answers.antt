use Rattle.told.proofs.Laws.{one_writing_both}
use Rattle.told.proofs.theorems.one_writing_both.Goals as goal

pub returns : goal.returns
returns c = one_writing_both

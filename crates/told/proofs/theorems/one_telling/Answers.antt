use Rattle.told.proofs.Laws.{one_telling}
use Rattle.told.proofs.theorems.one_telling.Goals as goal

pub returns : goal.returns
returns c = one_telling

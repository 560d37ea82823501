use Rattle.le.proofs.One.{one_write}
use Rattle.le.proofs.one_write.Goals as goal

pub returns : goal.returns
returns c = one_write

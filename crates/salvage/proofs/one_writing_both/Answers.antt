use Rattle.salvage.proofs.Promise.{one_writing_both}
use Rattle.salvage.proofs.one_writing_both.Goals as goal

pub returns : goal.returns
returns c = one_writing_both

use Rattle.writing.proofs.Done.{one_writing}
use Rattle.writing.proofs.one_writing.Goals as goal

pub returns : goal.returns
returns c = one_writing

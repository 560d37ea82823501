use Rattle.bindings_back.proofs.Bound.{written_bound}
use Rattle.bindings_back.proofs.written_bound.Goals as goal

pub returns : goal.returns
returns c = written_bound

use Rattle.bind.proofs.Edges.{edges_bound}
use Rattle.bind.proofs.theorems.edges_bound.Goals as goal

pub returns : goal.returns
returns c = edges_bound

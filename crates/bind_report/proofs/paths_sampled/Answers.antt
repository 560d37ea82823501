use Rattle.bind_report.proofs.Sample.{paths_sampled}
use Rattle.bind_report.proofs.paths_sampled.Goals as goal

pub returns : goal.returns
returns c = paths_sampled

use Rattle.report.proofs.Sample.{sample_told}
use Rattle.report.proofs.sample_told.Goals as goal

pub returns : goal.returns
returns c = sample_told

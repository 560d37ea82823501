use Rattle.type_report.proofs.Sample.{sample_told}
use Rattle.type_report.proofs.theorems.sample_told.Goals as goal

pub returns : goal.returns
returns c = sample_told

use Rattle.comparison.proofs.Sample.{report_meant}
use Rattle.comparison.proofs.theorems.report_meant.Goals as goal

pub returns : goal.returns
returns c = report_meant

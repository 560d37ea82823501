use Rattle.why_report.proofs.Written.{reasons_written}
use Rattle.why_report.proofs.theorems.reasons_written.Goals as goal

pub returns : goal.returns
returns c = reasons_written

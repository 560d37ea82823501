use Rattle.bind_report.proofs.Meaning.{reasons_meant}
use Rattle.bind_report.proofs.reasons_meant.Goals as goal

pub returns : goal.returns
returns c = reasons_meant

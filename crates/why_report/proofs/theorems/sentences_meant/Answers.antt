use Rattle.why_report.proofs.Meant.{sentences_meant}
use Rattle.why_report.proofs.theorems.sentences_meant.Goals as goal

pub returns : goal.returns
returns c = sentences_meant

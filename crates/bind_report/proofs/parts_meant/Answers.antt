use Rattle.bind_report.proofs.Meaning.{parts_meant}
use Rattle.bind_report.proofs.parts_meant.Goals as goal

pub returns : goal.returns
returns c = parts_meant

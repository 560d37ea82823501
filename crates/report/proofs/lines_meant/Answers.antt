use Rattle.report.proofs.Lines.{lines_meant}
use Rattle.report.proofs.lines_meant.Goals as goal

pub returns : goal.returns
returns c = lines_meant

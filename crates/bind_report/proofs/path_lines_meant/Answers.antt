use Rattle.bind_report.proofs.Lines.{path_lines_meant}
use Rattle.bind_report.proofs.path_lines_meant.Goals as goal

pub returns : goal.returns
returns c = path_lines_meant

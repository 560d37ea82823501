use Rattle.report.proofs.Aligned.{tables_meant}
use Rattle.report.proofs.tables_meant.Goals as goal

pub returns : goal.returns
returns c = tables_meant

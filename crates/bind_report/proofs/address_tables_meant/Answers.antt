use Rattle.bind_report.proofs.Aligned.{address_tables_meant}
use Rattle.bind_report.proofs.address_tables_meant.Goals as goal

pub returns : goal.returns
returns c = address_tables_meant

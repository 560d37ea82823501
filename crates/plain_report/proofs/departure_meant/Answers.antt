use Rattle.plain_report.proofs.Meaning.{departure_meant}
use Rattle.plain_report.proofs.departure_meant.Goals as goal

pub returns : goal.returns
returns c = departure_meant

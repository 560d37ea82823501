use Rattle.plain_report.proofs.Meaning.{departure_refused}
use Rattle.plain_report.proofs.departure_refused.Goals as goal

pub returns : goal.returns
returns c = departure_refused

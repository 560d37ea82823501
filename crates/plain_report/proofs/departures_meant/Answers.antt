use Rattle.plain_report.proofs.Texts.{departures_meant}
use Rattle.plain_report.proofs.departures_meant.Goals as goal

pub returns : goal.returns
returns c = departures_meant

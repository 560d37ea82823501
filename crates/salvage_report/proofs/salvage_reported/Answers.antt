use Rattle.salvage_report.proofs.Meaning.{salvage_reported}
use Rattle.salvage_report.proofs.salvage_reported.Goals as goal

pub returns : goal.returns
returns c = salvage_reported

use Rattle.report.proofs.Tallies.{tallies_meant}
use Rattle.report.proofs.tallies_meant.Goals as goal

pub returns : goal.returns
returns c = tallies_meant

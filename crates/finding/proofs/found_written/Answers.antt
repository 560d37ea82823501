use Rattle.finding.proofs.Written.{found_written}
use Rattle.finding.proofs.found_written.Goals as goal

pub returns : goal.returns
returns c = found_written

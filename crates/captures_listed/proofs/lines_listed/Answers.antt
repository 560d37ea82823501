use Rattle.captures_listed.proofs.Listed.{lines_listed}
use Rattle.captures_listed.proofs.lines_listed.Goals as goal

pub returns : goal.returns
returns c = lines_listed

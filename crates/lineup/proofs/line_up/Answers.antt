use Rattle.lineup.proofs.LineUp.{line_up}
use Rattle.lineup.proofs.line_up.Goals as goal

pub returns : goal.returns
returns c = line_up

use Rattle.lineup.proofs.Refusals.{refusals}
use Rattle.lineup.proofs.refusals_line_up.Goals as goal

pub returns : goal.returns
returns c = refusals

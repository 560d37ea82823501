use Rattle.lineup.proofs.Types.{types}
use Rattle.lineup.proofs.types_line_up.Goals as goal

pub returns : goal.returns
returns c = types

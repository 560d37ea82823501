use Rattle.lineup.proofs.Symbols.{symbols}
use Rattle.lineup.proofs.symbols_line_up.Goals as goal

pub returns : goal.returns
returns c = symbols

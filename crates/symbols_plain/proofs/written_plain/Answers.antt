use Rattle.symbols_plain.proofs.Written.{written_plain}
use Rattle.symbols_plain.proofs.written_plain.Goals as goal

pub returns : goal.returns
returns c = written_plain

use Rattle.flags.proofs.Laws.{symbol_back, symbol2_back, type_back}
use Rattle.flags.proofs.words_come_back.Goals as goal

pub returns : goal.returns
returns c = record { symbol = symbol_back; symbol2 = symbol2_back; type = type_back }

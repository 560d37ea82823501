use Rattle.flags.proofs.WordsRead.{words_read}
use Rattle.flags.proofs.words_read.Goals as goal

pub returns : goal.returns
returns c = words_read

use Rattle.values.proofs.Words.{words_meant}
use Rattle.values.proofs.theorems.words_meant.Goals as goal

pub returns : goal.returns
returns c = words_meant

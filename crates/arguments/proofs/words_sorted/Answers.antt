use Rattle.arguments.proofs.Meant as proved
use Rattle.arguments.proofs.words_sorted.Goals as goal

pub returns : goal.returns
returns c = proved.words_sorted

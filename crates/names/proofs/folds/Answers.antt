use Rattle.names.proofs.Meaning.{folds}
use Rattle.names.proofs.folds.Goals as goal

pub returns : goal.returns
returns c = folds

use Rattle.picture.proofs.Words.{labels_meant}
use Rattle.picture.proofs.theorems.labels_meant.Goals as goal

pub returns : goal.returns
returns c = labels_meant

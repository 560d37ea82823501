use Rattle.picture.proofs.Standing.{picture_meant}
use Rattle.picture.proofs.theorems.picture_meant.Goals as goal

pub returns : goal.returns
returns c = picture_meant

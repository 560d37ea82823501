use Rattle.captures.proofs.Laid.{split_meant}
use Rattle.captures.proofs.split_meant.Goals as goal

pub returns : goal.returns
returns c = split_meant

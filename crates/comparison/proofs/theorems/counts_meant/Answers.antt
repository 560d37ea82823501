use Rattle.comparison.proofs.Meant.{counts_meant}
use Rattle.comparison.proofs.theorems.counts_meant.Goals as goal

pub returns : goal.returns
returns c = counts_meant

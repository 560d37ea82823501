use Rattle.facts.proofs.Words.{reasons_meant}
use Rattle.facts.proofs.theorems.reasons_meant.Goals as goal

pub returns : goal.returns
returns c = reasons_meant

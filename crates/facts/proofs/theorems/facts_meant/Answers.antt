use Rattle.facts.proofs.Telling.{facts_meant}
use Rattle.facts.proofs.theorems.facts_meant.Goals as goal

pub returns : goal.returns
returns c = facts_meant

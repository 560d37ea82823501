use Rattle.pairing.proofs.Rules.{rules_meant}
use Rattle.pairing.proofs.theorems.rules_meant.Goals as goal

pub returns : goal.returns
returns c = rules_meant

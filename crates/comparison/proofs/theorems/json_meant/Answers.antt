use Rattle.comparison.proofs.Silent.{json_meant}
use Rattle.comparison.proofs.theorems.json_meant.Goals as goal

pub returns : goal.returns
returns c = json_meant

use Rattle.arguments.proofs.Meant as proved
use Rattle.arguments.proofs.options_meant.Goals as goal

pub returns : goal.returns
returns c = proved.options_meant

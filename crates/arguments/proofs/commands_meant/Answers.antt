use Rattle.arguments.proofs.Meant as proved
use Rattle.arguments.proofs.commands_meant.Goals as goal

pub returns : goal.returns
returns c = proved.commands_meant

use Rattle.arguments.proofs.Meant as proved
use Rattle.arguments.proofs.requests_meant.Goals as goal

pub returns : goal.returns
returns c = proved.requests_meant

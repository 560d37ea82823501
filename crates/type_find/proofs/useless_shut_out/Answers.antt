use Rattle.type_find.proofs.Useless.{useless_shut_out}
use Rattle.type_find.proofs.useless_shut_out.Goals as goal

pub returns : goal.returns
returns c = useless_shut_out

use Rattle.symbols_plain.proofs.OneToOne.{one_to_one}
use Rattle.symbols_plain.proofs.plain_one_to_one.Goals as goal

pub returns : goal.returns
returns c = one_to_one

use Rattle.bitflags.proofs.OnLiterals.{bitflags_on_literals}
use Rattle.values.proofs.names.named_bits.Goals as goal

pub returns : goal.returns
unfolding bitflags_on_literals
returns c = c.all.ensures tt

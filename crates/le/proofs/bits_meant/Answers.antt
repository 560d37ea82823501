use Rattle.le.proofs.Bits.{bits_meant}
use Rattle.le.proofs.bits_meant.Goals as goal

pub returns : goal.returns
returns c = bits_meant

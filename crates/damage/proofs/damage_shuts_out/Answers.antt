use Rattle.damage.proofs.ShutsOut.{damage_shuts_out}
use Rattle.damage.proofs.damage_shuts_out.Goals as goal

pub returns : goal.returns
returns c = damage_shuts_out

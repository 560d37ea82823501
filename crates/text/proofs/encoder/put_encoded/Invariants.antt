use Rattle.std.proofs.Common.{◌-◌, length}
use Rattle.text.proofs.Back.{Going}
use Rattle.text.proofs.encoder.put_encoded.Given as goal

abbrev pub invariant-loop-at : goal.invariant-loop-at
invariant-loop-at l = Going l.src l.initial.out l.out l.n l.at

abbrev pub decreases-loop-at : goal.decreases-loop-at
decreases-loop-at l = length l.src - l.at

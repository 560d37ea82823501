use Rattle.std.proofs.Common.{◌-◌, length}
use Rattle.text.proofs.Back.{Counting}
use Rattle.text.proofs.encoder.encoded_length.Given as goal

abbrev pub invariant-loop-at : goal.invariant-loop-at
invariant-loop-at l = Counting l.src l.n l.at

abbrev pub decreases-loop-at : goal.decreases-loop-at
decreases-loop-at l = length l.src - l.at

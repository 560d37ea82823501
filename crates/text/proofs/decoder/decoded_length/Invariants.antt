use Rattle.std.proofs.Common.{◌-◌, ◌*◌, ◌≤◌, ◌≡◌, length, take}
use Rattle.text.specs.Text.{decoded}
use Rattle.text.proofs.decoder.decoded_length.Given as goal

abbrev pub invariant-loop-at : goal.invariant-loop-at
invariant-loop-at l = record { inside : l.at ≤ length l.src; sum : l.n ≡ length (decoded (take l.at l.src)); few : l.n ≤ 16 * l.at }

abbrev pub decreases-loop-at : goal.decreases-loop-at
decreases-loop-at l = length l.src - l.at

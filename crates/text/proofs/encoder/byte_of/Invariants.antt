use Rattle.std.proofs.Common.{◌+◌, ◌-◌, ◌*◌, ◌≤◌, ◌≡◌}
use Rattle.text.proofs.Byte.{sum_to}
use Rattle.text.proofs.encoder.byte_of.Given as goal

abbrev pub invariant-loop-i : goal.invariant-loop-i
invariant-loop-i l = record { inside : l.i ≤ 32; byte : l.byte ≡ 128 + l.i; sum : l.sum ≡ sum_to l.i l.p; few : l.sum ≤ l.i * 160 }

abbrev pub decreases-loop-i : goal.decreases-loop-i
decreases-loop-i l = 32 - l.i

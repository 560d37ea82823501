use Rattle.std.proofs.Common.{◌-◌, ◌≤◌, length, take}
use Rattle.le.specs.Put.{Wrote}
use Rattle.text.specs.Text.{decoded}
use Rattle.text.proofs.decoder.put_decoded.Given as goal

abbrev pub invariant-loop-i : goal.invariant-loop-i
invariant-loop-i l = record { inside : l.i ≤ length l.src; wrote : Wrote l.initial.out 0 (decoded (take l.i l.src)) l.out l.at }

abbrev pub decreases-loop-i : goal.decreases-loop-i
decreases-loop-i l = length l.src - l.i

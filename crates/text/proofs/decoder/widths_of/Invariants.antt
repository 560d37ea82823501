use Rattle.std.proofs.Common.{◌+◌, ◌-◌, ◌*◌, ◌≤◌, ◌≡◌, length, take}
use Rattle.text.specs.Text.{decoded}
use Rattle.text.proofs.decoder.widths_of.Given as goal

abbrev pub invariant-loop-i : goal.invariant-loop-i
invariant-loop-i l = record {
  inside : l.i ≤ l.count;
  sum : length (decoded (take l.from l.s)) + l.n ≡ length (decoded (take (l.from + l.i) l.s));
  few : l.n ≤ 3 * l.i;
}

abbrev pub decreases-loop-i : goal.decreases-loop-i
decreases-loop-i l = l.count - l.i

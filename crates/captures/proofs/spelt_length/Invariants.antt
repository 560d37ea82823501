use Rattle.std.proofs.Common.{◌≡◌, ◌+◌, ◌≤◌, length}
use Rattle.captures.specs.Captures.{lines, told_length, joined}
use Rattle.captures.proofs.Lines.{with_length}
use Rattle.captures.proofs.spelt_length.Given as goal

abbrev pub invariant-loop-end : goal.invariant-loop-end
invariant-loop-end l = record {
  few : l.length + length l.rest ≤ length l.text;
  told : with_length l.length (joined (lines l.rest)) ≡ told_length (joined (lines l.text));
}

abbrev pub decreases-loop-end : goal.decreases-loop-end
decreases-loop-end l = length l.rest

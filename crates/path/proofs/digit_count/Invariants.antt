use Rattle.std.proofs.Common.{◌+◌, ◌-◌, ◌≤◌, ◌≡◌, length, drop}
use Rattle.std.specs.List.{prefix_len}
use Rattle.path.specs.Path.{is_digit}
use Rattle.path.proofs.digit_count.Given as goal

abbrev pub invariant-loop-n : goal.invariant-loop-n
invariant-loop-n l = record { fits : l.n ≤ length l.s; left : l.n + prefix_len is_digit (drop l.n l.s) ≡ prefix_len is_digit l.s }

abbrev pub decreases-loop-n : goal.decreases-loop-n
decreases-loop-n l = length l.s - l.n

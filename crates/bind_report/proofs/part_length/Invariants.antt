use Rattle.std.proofs.Common.{◌+◌, ◌-◌, ◌≤◌, ◌≡◌, length, drop}
use Rattle.std.specs.List.{position_or_len}
use Rattle.bind_report.specs.Words.{ends_part}
use Rattle.bind_report.proofs.part_length.Given as goal

abbrev pub invariant-loop-n : goal.invariant-loop-n
invariant-loop-n l = record { fits : l.n ≤ length l.s; left : l.n + position_or_len ends_part (drop l.n l.s) ≡ position_or_len ends_part l.s }

abbrev pub decreases-loop-n : goal.decreases-loop-n
decreases-loop-n l = length l.s - l.n

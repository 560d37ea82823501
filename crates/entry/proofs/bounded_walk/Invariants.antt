use Rattle.std.proofs.Common.{◌≡◌, ◌-◌}
use Rattle.entry.specs.Bounded.{bounded_walk}
use Rattle.entry.proofs.Bounded.{bounded_from}
use Rattle.entry.proofs.bounded_walk.Given as goal

abbrev pub invariant-loop-steps : goal.invariant-loop-steps
invariant-loop-steps l = bounded_from l.bytes l.cursor l.steps (l.fn.allowed - l.steps) ≡ bounded_walk l.bytes l.fn.from l.fn.allowed

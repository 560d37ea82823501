use Rattle.std.proofs.Common.{ℕ, ◌+◌, ◌≡◌, ◌≤◌, length}
use Rattle.name_order.specs.Order.{named_before}
use Rattle.name_order.specs.Halving.{halved}
use Rattle.name_order.proofs.starts_before.Given as goal

abbrev pub invariant-loop-rest : goal.invariant-loop-rest
invariant-loop-rest l = record {
  left : l.before + halved (named_before l.fn.places l.fn.bytes l.fn.name) l.rest ≡ halved (named_before l.fn.places l.fn.bytes l.fn.name) l.fn.starts;
  fits : l.before + length l.rest ≤ length l.fn.starts;
}

abbrev pub decreases-loop-rest : goal.decreases-loop-rest
decreases-loop-rest l = length l.rest

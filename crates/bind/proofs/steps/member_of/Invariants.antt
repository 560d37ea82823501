use Rattle.std.proofs.Common.{◌≡◌}
use Rattle.bind.specs.Binding.{member_of}
use Rattle.bind.proofs.steps.member_of.Given as goal

abbrev pub invariant-loop-left : goal.invariant-loop-left
invariant-loop-left l = member_of l.name l.left l.rest.bytes l.end ≡ member_of l.name l.fn.items.count l.fn.items.bytes l.end

abbrev pub decreases-loop-left : goal.decreases-loop-left
decreases-loop-left l = l.left

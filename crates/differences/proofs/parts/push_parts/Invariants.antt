use Rattle.std.proofs.Common.{◌≡◌, ◌++◌, ◌+◌, length}
use Rattle.differences.specs.Parts.{in_parts}
use Rattle.differences.proofs.parts.push_parts.Given as goal

abbrev pub invariant-loop-ours : goal.invariant-loop-ours
invariant-loop-ours l = l.all.items ++ in_parts l.a l.b l.ours l.theirs ≡ l.fn.all.items ++ in_parts l.a l.b l.sections_of_a l.sections_of_b

abbrev pub decreases-loop-ours : goal.decreases-loop-ours
decreases-loop-ours l = length l.ours + length l.theirs

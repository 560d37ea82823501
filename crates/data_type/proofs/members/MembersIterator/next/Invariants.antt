use Rattle.std.proofs.Common.{◌≡◌, ◌≤◌, take}
use Rattle.data_type.specs.Members.{root}
use Rattle.data_type.specs.Left.{stack_left}
use Rattle.data_type.proofs.members.MembersIterator.next.Given as goal

abbrev pub invariant-loop-used : goal.invariant-loop-used
invariant-loop-used l = record {
  left : stack_left 15 root l.self.bytes (take l.used l.self.levels) ≡ stack_left 15 root l.initial.self.bytes (take l.initial.self.used l.initial.self.levels);
  room : l.used ≤ 15;
}

abbrev pub decreases-loop-used : goal.decreases-loop-used
decreases-loop-used l = l.used

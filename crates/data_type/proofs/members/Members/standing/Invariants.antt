use Rattle.std.proofs.Common.{◌≡◌, ◌≤◌, ◌+◌, ◌*◌, length, take}
use Rattle.data_type.specs.Members.{root}
use Rattle.data_type.specs.Left.{standing}
use Rattle.data_type.proofs.members.Members.standing.Given as goal

abbrev pub invariant-loop-level : goal.invariant-loop-level
invariant-loop-level l = record {
  stands : record { path = l.path; depth = l.level + 1; offset = l.offset } ≡ standing root (take l.level l.self.levels);
  small : l.offset ≤ l.level * 4294967296;
  long : length l.path ≡ 15;
}

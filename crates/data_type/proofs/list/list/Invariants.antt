use Rattle.data_type.specs.Left.{members_left}
use Rattle.data_type.specs.List.{slots_of}
use Rattle.data_type.proofs.Filling.{Going}
use Rattle.data_type.proofs.list.list.Given as goal

abbrev pub invariant-loop-member : goal.invariant-loop-member
invariant-loop-member l = record {
  can : (goal.iterator-loop-member).can_next l.member-iterator;
  finite : (goal.iterator-loop-member).is_finite l.member-iterator;
  going : Going l.fn.slots l.slots 0 l.at (slots_of (members_left l.member-iterator)) (slots_of (members_left l.initial.member-iterator));
}

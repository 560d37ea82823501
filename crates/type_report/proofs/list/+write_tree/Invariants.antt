use Rattle.std.proofs.Common.{◌+◌, ◌++◌, codes}
use Rattle.std.specs.List.{flat_map}
use Rattle.report.proofs.Going.{Going}
use Rattle.type_report.specs.Json.{node_text}
use Rattle.type_tree.specs.Node.{members_left}
use Rattle.type_report.proofs.list.+write_tree.Given as goal

abbrev pub decreases-write_node : goal.decreases-write_node
decreases-write_node g l = l.levels + l.levels + l.levels

abbrev pub decreases-write_members : goal.decreases-write_members
decreases-write_members g l = l.levels + l.levels + l.levels + 2

abbrev pub decreases-write_more : goal.decreases-write_more
decreases-write_more g l = l.levels + l.levels + l.levels + 1

abbrev pub invariant-write_more-loop-member : goal.invariant-write_more-loop-member
invariant-write_more-loop-member g l = record {
  can : (goal.iterator-write_more-loop-member g).can_next l.member-iterator;
  ends : (goal.iterator-write_more-loop-member g).is_finite l.member-iterator;
  going : Going (g.W.Write.contents l.fn.out) (g.W.Write.contents l.out) (flat_map (λ x. codes "," ++ node_text l.mode l.levels x) (members_left l.member-iterator)) (flat_map (λ x. codes "," ++ node_text l.mode l.levels x) (members_left l.initial.member-iterator));
}

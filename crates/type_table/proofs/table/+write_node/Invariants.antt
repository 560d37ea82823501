use Rattle.std.specs.List.{flat_map}
use Rattle.report.proofs.Going.{Going}
use Rattle.std.proofs.Common.{◌-◌}
use Rattle.type_tree.specs.Node.{members_left}
use Rattle.type_table.specs.Table.{rows_of, row_line}
use Rattle.type_table.proofs.table.+write_node.Given as goal

abbrev pub decreases-write_node : goal.decreases-write_node
decreases-write_node g l = l.levels

abbrev pub invariant-loop-member : goal.invariant-loop-member
invariant-loop-member g l = record {
  can : (goal.iterator-loop-member g).can_next l.member-iterator;
  ends : (goal.iterator-loop-member g).is_finite l.member-iterator;
  going : Going (g.W.Write.contents l.initial.out) (g.W.Write.contents l.out) (flat_map (λ m. flat_map (row_line l.columns) (rows_of l.mode (l.levels - 1) l.indent m)) (members_left l.member-iterator)) (flat_map (λ m. flat_map (row_line l.columns) (rows_of l.mode (l.levels - 1) l.indent m)) (members_left l.initial.member-iterator));
}

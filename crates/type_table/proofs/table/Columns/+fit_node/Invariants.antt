use Rattle.std.proofs.Common.{◌≡◌, ◌-◌}
use Rattle.std.specs.List.{flat_map}
use Rattle.type_tree.specs.Node.{members_left}
use Rattle.type_table.specs.Table.{rows_of, fitted_on}
use Rattle.type_table.proofs.table.Columns.+fit_node.Given as goal

abbrev pub decreases-fit_node : goal.decreases-fit_node
decreases-fit_node l = l.levels

abbrev pub invariant-loop-member : goal.invariant-loop-member
invariant-loop-member l = record {
  can : (goal.iterator-loop-member).can_next l.member-iterator;
  ends : (goal.iterator-loop-member).is_finite l.member-iterator;
  fits : fitted_on l.self (flat_map (rows_of l.mode (l.levels - 1) l.indent) (members_left l.member-iterator)) ≡ fitted_on l.initial.self (flat_map (rows_of l.mode (l.levels - 1) l.indent) (members_left l.initial.member-iterator));
}

-- docs/FORMAT.md, "The command's text" and "Data type entries": how many rows a data type has, and that none is left out.
use Rattle.std.specs.Prelude.{ℕ, ◌+◌, ◌≤◌, ◌≡◌, List, length, Ok}
use Rattle.std.specs.Borrow.{Bor}
use Rattle.refusal.specs.Refusal.{limit}
use Rattle.refusal.specs.declared.Mode.{Mode}
use Rattle.data_type.specs.declared.AdsDataTypeInfo.{AdsDataTypeInfo}
use Rattle.data_type.specs.DataType.{type_of}
use Rattle.type_tree.specs.declared.node.Node.{Node}
use Rattle.type_tree.specs.Levels.{HasLevels}
use Rattle.type_tree.specs.Node.{root}
use Rattle.type_table.specs.Table.{rows_of, rows_at}

pub record RowsMeant : Type 0 where
  -- more levels than there are change nothing
  pub more : (mode : Mode) (levels deeper indent : ℕ) (n : Node) → HasLevels mode levels n → rows_of mode (deeper + levels) indent n ≡ rows_of mode levels indent n
  -- so an accepted data type has a row for itself and one for each of its members, at whatever depth
  pub counted : (mode : Mode) (e : Bor (List ℕ)) (r : AdsDataTypeInfo) (place : ℕ) → type_of mode e ≡ Ok r → length e.now ≤ limit
      → length (rows_at mode (root place r)) ≡ 1 + r.member_count

-- docs/FORMAT.md, "The command's text" and "Data type entries": how many objects stand one in another, and that none is left out.
use Rattle.std.specs.Prelude.{ℕ, ◌+◌, ◌≤◌, ◌≡◌, List, ◌++◌, codes, length, Ok}
use Rattle.std.specs.Borrow.{Bor}
use Rattle.refusal.specs.Refusal.{limit}
use Rattle.refusal.specs.declared.Mode.{Mode}
use Rattle.data_type.specs.declared.AdsDataTypeInfo.{AdsDataTypeInfo}
use Rattle.data_type.specs.DataType.{type_of}
use Rattle.type_tree.specs.declared.node.Node.{Node}
use Rattle.type_tree.specs.Levels.{HasLevels}
use Rattle.type_tree.specs.Node.{root}
use Rattle.type_report.specs.Json.{node_text, type_line}

pub record ObjectsMeant : Type 0 where
  -- more levels than there are change nothing
  pub more : (mode : Mode) (levels deeper : ℕ) (n : Node) → HasLevels mode levels n → node_text mode (deeper + levels) n ≡ node_text mode levels n
  -- so the line of an accepted data type has all its members, at whatever depth
  pub whole : (mode : Mode) (e : Bor (List ℕ)) (r : AdsDataTypeInfo) (place deeper : ℕ) → type_of mode e ≡ Ok r → length e.now ≤ limit
      → type_line mode (root place r) ≡ node_text mode (deeper + 16) (root place r) ++ codes "\n"

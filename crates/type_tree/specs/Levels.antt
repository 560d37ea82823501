-- docs/FORMAT.md, "The command's text" and "Data type entries": how many levels an accepted data type has.
use Rattle.std.specs.Prelude.{ℕ, zero, suc, ◌≤◌, ◌≡◌, List, length, All, Ok}
use Rattle.std.specs.Borrow.{Bor}
use Rattle.refusal.specs.Refusal.{limit}
use Rattle.refusal.specs.declared.Mode.{Mode}
use Rattle.data_type.specs.declared.AdsDataTypeInfo.{AdsDataTypeInfo}
use Rattle.data_type.specs.DataType.{type_of}
use Rattle.type_tree.specs.declared.node.Node.{Node}
use Rattle.type_tree.specs.Node.{root, members_of}

-- a data type with at most so many levels, itself the first: those of its members are one fewer
unfoldable pub HasLevels : Mode → ℕ → Node → Type 0
HasLevels mode zero n = ⊥
HasLevels mode (suc levels) n = All (HasLevels mode levels) (members_of mode n)

-- 16 at most
abbrev pub LevelsMeant : Type 0
LevelsMeant = (mode : Mode) (e : Bor (List ℕ)) (r : AdsDataTypeInfo) (place : ℕ) → type_of mode e ≡ Ok r → length e.now ≤ limit → HasLevels mode 16 (root place r)

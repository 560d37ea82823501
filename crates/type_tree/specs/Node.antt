-- docs/FORMAT.md, "The command's text": where a data type stands in an upload, and where a member of one does.
use Rattle.std.specs.Prelude.{ℕ, zero, suc, ◌-◌, List, [], ◌∷◌, length}
use Rattle.part.specs.Outcome.{outcome}
use Rattle.refusal.specs.declared.Mode.{Mode}
use Rattle.walk.specs.declared.Piece.{Piece}
use Rattle.walk.specs.Pieces.{pieces, walker_left}
use Rattle.data_type.specs.declared.AdsDataTypeInfo.{AdsDataTypeInfo}
use Rattle.data_type.specs.DataType.{type_of}
use Rattle.report.specs.Report.{plus}
use Rattle.type_tree.specs.declared.node.Node.{Node}
use Rattle.type_tree.specs.declared.node.Members.{Members}
use Rattle.type_tree.specs.Marks.{marks_within}

-- a data type at a place of an upload
abbrev pub root : ℕ → AdsDataTypeInfo → Node
root place info = record { place = place; offset_from_start = 0; marks = record { own = info.field.flags; around = record { 0 = 0 } }; info = info }

-- where the first of its sub-items starts
abbrev pub items_start : Node → ℕ
items_start n = plus n.place (n.info.field.length - length n.info.sub_items.bytes.now)

-- one of them, at a place behind that
unfoldable pub member_at : Node → ℕ → AdsDataTypeInfo → Node
member_at n at info =
    record {
      place = plus (items_start n) at;
      offset_from_start = plus n.offset_from_start info.field.offset;
      marks = marks_within n.marks info.field.flags;
      info = info;
    }

-- so many of the entries that stand one behind another, up to one that is refused
unfoldable pub members_from : Node → ℕ → List (Piece AdsDataTypeInfo) → List Node
members_from n zero ps = []
members_from n (suc left) [] = []
members_from n (suc left) (p ∷ ps) = outcome p.answer (λ info. member_at n p.start info ∷ members_from n left ps) (λ why. [])

-- its sub-items, in their order
abbrev pub members_of : Mode → Node → List Node
members_of mode n = members_from n n.info.sub_items.count (pieces (type_of mode) n.info.sub_items.bytes)

-- those that are still to be given
abbrev pub members_left : Members → List Node
members_left m = members_from m.parent m.left (walker_left type_of m.walker)

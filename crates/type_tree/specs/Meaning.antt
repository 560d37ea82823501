-- docs/FORMAT.md, "The command's text" and "Data type entries". Which objects stand in one another, by the bytes of the upload.
use Rattle.std.specs.Prelude.{ℕ, suc, ◌+◌, ◌-◌, ◌*◌, ◌^◌, ◌≤◌, ◌≡◌, min, List, [], ◌∷◌, Ok, bit_or, length}
use Rattle.std.specs.Borrow.{Bor}
use Rattle.le.specs.Le.{le2, le4}
use Rattle.part.specs.Slice.{part}
use Rattle.refusal.specs.Refusal.{limit}
use Rattle.refusal.specs.declared.Mode.{Mode}
use Rattle.data_type.specs.DataType.{type_of}
use Rattle.type_tree.specs.declared.node.Node.{Node}
use Rattle.type_tree.specs.Node.{members_of}

-- the member at a place: the entry there, its offset added to that of what it stands in, its own flags, and all flags of what it stands in
pub record IsMember (mode : Mode) (u : Bor (List ℕ)) (n : Node) (at : ℕ) (m : Node) : Type 0 where
  pub place : m.place ≡ at
  pub least : 42 ≤ le4 u.now at
  pub room : at + le4 u.now at ≤ length u.now
  pub read : type_of mode (part u at (le4 u.now at)) ≡ Ok m.info
  pub offset : m.offset_from_start ≡ min (n.offset_from_start + le4 u.now (at + 20)) (2 ^ 64 - 1)
  pub own : m.marks.own.0 ≡ le4 u.now (at + 28)
  pub around : m.marks.around.0 ≡ bit_or n.marks.around.0 n.marks.own.0

-- so many from a place on, each behind the one before
pub data AreMembers (mode : Mode) (u : Bor (List ℕ)) (n : Node) : ℕ → ℕ → List Node → Type 0 where
  none : {at : ℕ} → AreMembers mode u n at 0 []
  one : {at left : ℕ} {m : Node} {ms : List Node} → IsMember mode u n at m → AreMembers mode u n (at + le4 u.now at) left ms → AreMembers mode u n at (suc left) (m ∷ ms)

-- an entry of so many bytes stands in the upload, and is read
pub record StandsIn (mode : Mode) (u : Bor (List ℕ)) (n : Node) (size : ℕ) : Type 0 where
  pub small : length u.now ≤ limit
  pub room : n.place + size ≤ length u.now
  pub read : type_of mode (part u n.place size) ≡ Ok n.info

-- behind the header, the three strings and the array records
abbrev pub first_place : List ℕ → ℕ → ℕ
first_place s at = at + (45 + le2 s (at + 32) + le2 s (at + 34) + le2 s (at + 36) + 8 * le2 s (at + 38))

-- the objects in that of an entry are its sub-items, all of them and in their order; each stands in the upload as the entry does
abbrev pub MembersMeant : Type 0
MembersMeant = (mode : Mode) (u : Bor (List ℕ)) (n : Node) (size : ℕ) → StandsIn mode u n size → AreMembers mode u n (first_place u.now n.place) (le2 u.now (n.place + 40)) (members_of mode n)

-- How many levels a data type has, and how many members.
use Rattle.std.proofs.Common.{ℕ, zero, suc, ◌+◌, ◌-◌, ◌≤◌, ◌≡◌, refl, sym, ap, ap₂, subst, ◌∙◌, List, [], ◌∷◌, length, length-drop, arith, Bor}
use Rattle.std.specs.Prelude.{All, Ok}
use Rattle.std.proofs.lemmas.List.Elements.{All-nil, All-cons}
use Rattle.le.specs.Le.{le4}
use Rattle.part.specs.Slice.{after}
use Rattle.part.proofs.Slice.{after_zero}
use Rattle.refusal.specs.Refusal.{limit}
use Rattle.refusal.specs.declared.Mode.{Mode}
use Rattle.walk.specs.declared.Piece.{Piece}
use Rattle.walk.specs.Pieces.{pieces_from}
use Rattle.data_type.specs.declared.AdsDataTypeInfo.{AdsDataTypeInfo}
use Rattle.data_type.specs.declared.reader.SubItemsRead.{SubItemsRead}
use Rattle.data_type.specs.DataType.{items_from, item_at, type_at, type_of}
use Rattle.data_type.specs.Layout.{arrays_end}
use Rattle.data_type.proofs.Inside.{turn, holds}
use Rattle.type_tree.specs.declared.node.Node.{Node}
use Rattle.type_tree.specs.Node.{root, members_from, members_of, member_at}
use Rattle.type_tree.specs.Levels.{HasLevels, LevelsMeant}
use Rattle.type_tree.proofs.SubItems.{found, tells}

-- some data types, and the members in them
abbrev pub with_members : List Node → ℕ
with_members [] = 0
with_members (m ∷ ms) = 1 + m.info.member_count + with_members ms

-- what holds of each of some members, and how many there are with those in them
record Counted (P : Node → Type 0) (ms : List Node) (members : ℕ) : Type 0 where
  each : All P ms
  count : with_members ms ≡ members

abbrev Each : Mode → (ℕ → Node → Type 0) → ℕ → Type 0
Each mode P left = (deeper : ℕ) → left ≡ suc deeper → (e : Bor (List ℕ)) (r : AdsDataTypeInfo) → type_at mode deeper e ≡ Ok r → length e.now ≤ limit → (m : Node) → m.info ≡ r → P left m

info_is : (n : Node) (at : ℕ) (info : AdsDataTypeInfo) → (member_at n at info).info ≡ info
unfolding member_at
info_is n at info = refl

-- of all members, where it holds of each
module _ (mode : Mode) (P : ℕ → Node → Type 0) (left : ℕ) (few : left ≤ 15) (n : Node) (s : Bor (List ℕ)) (small : length s.now ≤ limit)
    (each : Each mode P left) where
  all : (count at : ℕ) (items : SubItemsRead) → items_from (item_at mode left) (after s at) count ≡ Ok items
      → Counted (P left) (members_from n count (pieces_from (type_of mode) s at (length s.now - at))) items.members
  unfolding members_from items_from
  all zero at items h =
      let none : record { rest = after s at; members = 0 } ≡ items = cc h in
      record { each = All-nil (P left); count = ap (λ (i : SubItemsRead). i.members) none }
  all (suc count) at items h =
      let t = turn mode left (after s at) count items h in
      let f = found mode left few s small at count items t in
      let size : ℕ = le4 s.now at in
      let own = each t.deeper t.some t.own t.info t.entry f.short (member_at n at t.info) (info_is n at t.info) in
      let rest = all count (at + size) t.more f.rest in
      let member : Node = member_at n at t.info in
      let others : List Node = members_from n count (pieces_from (type_of mode) s (at + size) (length s.now - (at + size))) in
      let both : Counted (P left) (member ∷ others) items.members = record {
        each = All-cons (P left) member others own rest.each;
        count = ap₂ (λ (a b : ℕ). a + b) (ap (λ (r : AdsDataTypeInfo). 1 + r.member_count) (info_is n at t.info)) rest.count ∙ ap (λ (i : SubItemsRead). i.members) t.is;
      } in
      subst (λ (ps : List (Piece AdsDataTypeInfo)). Counted (P left) (members_from n (suc count) ps) items.members) (sym f.pieces) both

inside : (mode : Mode) (left : ℕ) (e : Bor (List ℕ)) (r : AdsDataTypeInfo) → type_at mode left e ≡ Ok r → length e.now ≤ limit → length r.sub_items.bytes.now ≤ limit
inside mode left e r h short =
    let t = tells mode left e r h in
    let long : length r.sub_items.bytes.now ≡ length e.now - arrays_end e.now = ap (λ (x : AdsDataTypeInfo). length x.sub_items.bytes.now) t.is ∙ length-drop (arrays_end e.now) e.now in
    omega (arith, long, short)

-- what holds of an accepted data type: what follows of its members, which have a level less
module _ (mode : Mode) (P : ℕ → Node → Type 0) (follows : (levels : ℕ) (n : Node) → All (P levels) (members_of mode n) → n.info.member_count ≡ with_members (members_of mode n) → P (suc levels) n) where
  step : (left : ℕ) → left ≤ 15 → Each mode P left → (e : Bor (List ℕ)) (r : AdsDataTypeInfo) → type_at mode left e ≡ Ok r → length e.now ≤ limit → (n : Node) → n.info ≡ r → P (suc left) n
  step left few each e r h short n is =
      let o = holds mode left e r h in
      let s : Bor (List ℕ) = n.info.sub_items.bytes in
      let small : length s.now ≤ limit = subst (λ (x : AdsDataTypeInfo). length x.sub_items.bytes.now ≤ limit) (sym is) (inside mode left e r h short) in
      let read : items_from (item_at mode left) (after s 0) n.info.sub_items.count ≡ Ok o.items =
      ap (λ (b : Bor (List ℕ)). items_from (item_at mode left) b n.info.sub_items.count) (sym (after_zero s))
      ∙ ap (λ (x : AdsDataTypeInfo). items_from (item_at mode left) x.sub_items.bytes x.sub_items.count) is ∙ o.read in
      let none_before : length s.now - 0 ≡ length s.now = omega arith in
      let a : Counted (P left) (members_of mode n) o.items.members = subst (λ (k : ℕ). Counted (P left) (members_from n n.info.sub_items.count (pieces_from (type_of mode) s 0 k)) o.items.members) none_before
      (all mode P left few n s small each n.info.sub_items.count 0 o.items read) in
      follows left n a.each (ap (λ (x : AdsDataTypeInfo). x.member_count) is ∙ o.count ∙ sym a.count)

  reached : (left : ℕ) → left ≤ 15 → (e : Bor (List ℕ)) (r : AdsDataTypeInfo) → type_at mode left e ≡ Ok r → length e.now ≤ limit → (n : Node) → n.info ≡ r → P (suc left) n
  reached zero few e r h short n is = step zero few (λ deeper q f t g i m k. absurd (omega (arith, q))) e r h short n is
  reached (suc left) few e r h short n is =
      step (suc left) few
      (λ deeper q f t g i m k. (let same : deeper ≡ left = omega (arith, q) in reached left (omega (arith, few)) f t (subst (λ (d : ℕ). type_at mode d f ≡ Ok t) same g) i m k))
      e r h short n is

  pub accepted : (e : Bor (List ℕ)) (r : AdsDataTypeInfo) (place : ℕ) → type_of mode e ≡ Ok r → length e.now ≤ limit → P 16 (root place r)
  accepted e r place h short = reached 15 (omega arith) e r h short (root place r) refl

pub levels_meant : LevelsMeant
unfolding HasLevels
levels_meant mode e r place h short = accepted mode (HasLevels mode) (λ levels n each count. each) e r place h short

-- The objects that stand in that of an entry are its sub-items.
use Rattle.std.proofs.Common.{ℕ, zero, suc, ◌+◌, ◌-◌, ◌≤◌, ◌≡◌, refl, sym, ap, ap₂, subst, ◌∙◌, false, List, ◌∷◌, length, drop, eqb, arith, Bor, length-drop}
use native.Mathlib.Nat.{add-zero}
use Rattle.std.specs.Prelude.{Result, Ok}
use borrow.Author.Tests.{le-ltb, lt-leb}
use Rattle.std.proofs.lemmas.Bool.{ne_eqb}
use Rattle.le.specs.Le.{le2, le4}
use Rattle.part.specs.Slice.{part, after}
use Rattle.part.proofs.Slice.{part_after, after_after, after_zero, length_part}
use Rattle.refusal.specs.Refusal.{limit}
use Rattle.refusal.specs.declared.Mode.{Mode}
use Rattle.refusal.specs.declared.Refusal.{Refusal}
use Rattle.entry.specs.Entry.{claim_at}
use Rattle.walk.specs.declared.Piece.{Piece}
use Rattle.walk.specs.Pieces.{piece_at, pieces_from}
use Rattle.walk.proofs.Left.{one_left}
use Rattle.field.specs.declared.tail.Tail.{Tail}
use Rattle.field.specs.Field.{joined}
use Rattle.data_type.specs.declared.AdsDataTypeInfo.{AdsDataTypeInfo}
use Rattle.data_type.specs.declared.array.ArrayInfos.{ArrayInfos}
use Rattle.data_type.specs.declared.reader.SubItemsRead.{SubItemsRead}
use Rattle.data_type.specs.DataType.{items_from, item_at, sub_items_of, type_at, type_of}
use Rattle.field.specs.Modes.{strings_end}
use Rattle.data_type.specs.Layout.{arrays_end, record_of}
use Rattle.data_type.proofs.Parts.{part_in, after_is}
use Rattle.data_type.proofs.Inside.{Turn, turn, accepted_at, holds}
use Rattle.data_type.proofs.More.{deeper}
use Rattle.data_type.proofs.Numbers.{le2_part, le4_part, le4_drop, heads, fills}
use Rattle.data_type.proofs.Fronts.{front_was, record_is}
use Rattle.data_type.proofs.Stands.{took}
use Rattle.type_tree.specs.declared.node.Node.{Node}
use Rattle.type_tree.specs.Node.{items_start, member_at, members_from, members_of}
use Rattle.type_tree.specs.Meaning.{IsMember, AreMembers, none, one, first_place, MembersMeant}

-- what a record tells of its entry's bytes
pub record Tells (e : Bor (List ℕ)) (r : AdsDataTypeInfo) : Type 0 where
  pub tail : Tail
  pub members : ℕ
  pub is : r ≡ record_of e tail members
  pub strings : strings_end e.now ≤ length e.now
  pub room : arrays_end e.now ≤ length e.now

pub tells : (mode : Mode) (left : ℕ) (e : Bor (List ℕ)) (r : AdsDataTypeInfo) → type_at mode left e ≡ Ok r → Tells e r
tells mode left e r h =
    let a = accepted_at mode left e r h in
    let w = front_was mode e a.front a.front_is in
    let d = heads mode e a.front a.front_is in
    let f = fills a.front (a.arrays, a.first) a.arrays_are in
    let rest : length a.front.rest.now ≡ length e.now - strings_end e.now = ap (λ (x : Bor (List ℕ)). length x.now) d.rest ∙ length-drop (strings_end e.now) e.now in
    record {
      tail = a.tail;
      members = a.items.members;
      is = sym a.is
          ∙ ap₂ (λ (x : ArrayInfos) (y : Bor (List ℕ)). record { field = joined a.front a.tail; arrays = x; sub_items = sub_items_of a.front y; member_count = a.items.members }) f.arrays f.first
          ∙ record_is e a.front a.tail a.items.members w.1;
      strings = d.room;
      room = omega (arith, f.room, d.arrays, d.room, rest);
    }

-- the piece at a claim that is there
piece_is : {R : Type 0} (read : Bor (List ℕ) → Result R Refusal) (s : Bor (List ℕ)) (at : ℕ) → length s.now ≤ limit → 4 ≤ le4 s.now at → at + le4 s.now at ≤ length s.now
    → piece_at read s at ≡ record { start = at; end = at + le4 s.now at; answer = read (part s at (le4 s.now at)) }
unfolding piece_at claim_at
piece_is read s at small some room =
    let moves : eqb (at + le4 s.now at) at ≡ false = ne_eqb (at + le4 s.now at) at (λ e. omega (arith, e, some)) in
    simp (
      lt-leb (length s.now) at (omega arith),
      le-ltb limit (length s.now) small,
      le-ltb (length s.now - at) 4 (omega arith),
      le-ltb (length s.now - at) (le4 s.now at) (omega arith),
      moves,
    )

-- the first of some sub-items, where it stands among the pieces of their bytes
pub record Found (mode : Mode) (left : ℕ) (s : Bor (List ℕ)) (at count : ℕ) (items : SubItemsRead) (t : Turn mode left (after s at) count items) : Type 0 where
  pub least : 42 ≤ le4 s.now at
  pub room : at + le4 s.now at ≤ length s.now
  pub short : length t.own.now ≤ limit
  pub read : type_of mode (part s at (le4 s.now at)) ≡ Ok t.info
  pub rest : items_from (item_at mode left) (after s (at + le4 s.now at)) count ≡ Ok t.more
  pub pieces : pieces_from (type_of mode) s at (length s.now - at)
      ≡ record { start = at; end = at + le4 s.now at; answer = Ok t.info } ∷ pieces_from (type_of mode) s (at + le4 s.now at) (length s.now - (at + le4 s.now at))

pub found : (mode : Mode) (left : ℕ) → left ≤ 15 → (s : Bor (List ℕ)) → length s.now ≤ limit → (at count : ℕ) (items : SubItemsRead) (t : Turn mode left (after s at) count items)
    → Found mode left s at count items t
found mode left few s small at count items t =
    let k = took (after s at) t.own t.behind t.takes in
    let size : ℕ = le4 s.now at in
    let size_is : le4 (drop at s.now) 0 ≡ size = le4_drop s.now at 0 ∙ ap (le4 s.now) (add-zero at) in
    let long : length (drop at s.now) ≡ length s.now - at = length-drop at s.now in
    let least : 42 ≤ size = omega (arith, k.least, size_is) in
    let room : at + size ≤ length s.now = omega (arith, k.least, k.room, size_is, long) in
    let own_is : t.own ≡ part s at size = k.own_is ∙ part_after s at 0 (le4 (drop at s.now) 0) ∙ ap₂ (part s) (add-zero at) size_is in
    let behind_is : t.behind ≡ after s (at + size) = k.behind_is ∙ after_after s at (le4 (drop at s.now) 0) ∙ ap (λ (x : ℕ). after s (at + x)) size_is in
    let own_long : length t.own.now ≡ size = ap (λ (x : Bor (List ℕ)). length x.now) own_is ∙ length_part s at size room in
    let levels : 15 - t.deeper + t.deeper ≡ 15 = omega (arith, t.some, few) in
    let as_root : type_of mode t.own ≡ Ok t.info = subst (λ (x : ℕ). type_at mode x t.own ≡ Ok t.info) levels (deeper mode (15 - t.deeper) t.deeper t.own t.info t.entry) in
    let read : type_of mode (part s at size) ≡ Ok t.info = ap (type_of mode) (sym own_is) ∙ as_root in
    let piece : piece_at (type_of mode) s at ≡ record { start = at; end = at + size; answer = Ok t.info } =
    piece_is (type_of mode) s at small (omega (arith, least)) room
    ∙ ap (λ (r : Result AdsDataTypeInfo Refusal). record { start = at; end = at + size; answer = r }) read in
    record {
      least = least;
      room = room;
      short = omega (arith, own_long, room, small);
      read = read;
      rest = ap (λ (x : Bor (List ℕ)). items_from (item_at mode left) x count) (sym behind_is) ∙ t.rest;
      pieces = one_left (type_of mode) s at (omega (arith, least, room))
          ∙ ap (λ (p : Piece AdsDataTypeInfo). p ∷ pieces_from (type_of mode) s p.end (length s.now - p.end)) piece;
    }

module _ (mode : Mode) (u : Bor (List ℕ)) (small : length u.now ≤ limit) (n : Node) (s : Bor (List ℕ)) (base : ℕ) (is : s ≡ part u base (length s.now)) (inside : base + length s.now ≤ length u.now)
    (starts : items_start n ≡ base) where
  part_there : (at c : ℕ) → at + c ≤ length s.now → part s at c ≡ part u (base + at) c
  part_there at c h = ap (λ (x : Bor (List ℕ)). part x at c) is ∙ part_in u base (length s.now) at c h

  le4_there : (at : ℕ) → at + 4 ≤ length s.now → le4 s.now at ≡ le4 u.now (base + at)
  le4_there at h = ap (λ (x : Bor (List ℕ)). le4 x.now at) is ∙ le4_part u.now base (length s.now) at h

  -- the entry at a place of the sub-items is a member
  is_member : (at : ℕ) (info : AdsDataTypeInfo) → 42 ≤ le4 s.now at → at + le4 s.now at ≤ length s.now → type_of mode (part s at (le4 s.now at)) ≡ Ok info
      → IsMember mode u n (base + at) (member_at n at info)
  unfolding member_at
  is_member at info least room read =
      let c : le4 s.now at ≡ le4 u.now (base + at) = le4_there at (omega (arith, least, room)) in
      let p : part s at (le4 s.now at) ≡ part u (base + at) (le4 u.now (base + at)) = part_there at (le4 s.now at) room ∙ ap (part u (base + at)) c in
      let t = tells mode 15 (part s at (le4 s.now at)) info read in
      let there : (k : ℕ) → k + 4 ≤ le4 s.now at → le4 (part s at (le4 s.now at)).now k ≡ le4 u.now (base + at + k) =
      λ k h. ap (λ (x : Bor (List ℕ)). le4 x.now k) (part_there at (le4 s.now at) room) ∙ le4_part u.now (base + at) (le4 s.now at) k h in
      let offset : info.field.offset ≡ le4 u.now (base + at + 20) = ap (λ (r : AdsDataTypeInfo). r.field.offset) t.is ∙ there 20 (omega (arith, least)) in
      let flags : info.field.flags.0 ≡ le4 u.now (base + at + 28) = ap (λ (r : AdsDataTypeInfo). r.field.flags.0) t.is ∙ there 28 (omega (arith, least)) in
      record {
        place = omega (arith, starts, inside, room, small);
        least = omega (arith, least, c);
        room = omega (arith, room, c, inside);
        read = ap (type_of mode) (sym p) ∙ read;
        offset = simp offset refl;
        own = flags;
        around = refl;
      }

  all : (left : ℕ) → left ≤ 15 → (count at : ℕ) (items : SubItemsRead) → items_from (item_at mode left) (after s at) count ≡ Ok items
      → AreMembers mode u n (base + at) count (members_from n count (pieces_from (type_of mode) s at (length s.now - at)))
  unfolding members_from
  all left few zero at items h = none
  all left few (suc count) at items h =
      let t = turn mode left (after s at) count items h in
      let f = found mode left few s (omega (arith, inside, small)) at count items t in
      let next : base + (at + le4 s.now at) ≡ base + at + le4 u.now (base + at) = omega (arith, le4_there at (omega (arith, f.least, f.room))) in
      let more = all left few count (at + le4 s.now at) t.more f.rest in
      subst (λ (ps : List (Piece AdsDataTypeInfo)). AreMembers mode u n (base + at) (suc count) (members_from n (suc count) ps)) (sym f.pieces)
      (one (is_member at t.info f.least f.room f.read)
      (subst (λ (x : ℕ). AreMembers mode u n x count (members_from n count (pieces_from (type_of mode) s (at + le4 s.now at) (length s.now - (at + le4 s.now at))))) next more))

pub members_meant : MembersMeant
members_meant mode u n size st =
    let e : Bor (List ℕ) = part u n.place size in
    let t = tells mode 15 e n.info st.read in
    let s : Bor (List ℕ) = n.info.sub_items.bytes in
    let from : ℕ = arrays_end e.now in
    let long : length e.now ≡ size = length_part u n.place size st.room in
    let strings : 45 ≤ size = omega (arith, t.strings, long) in
    let room : from ≤ size = omega (arith, t.room, long) in
    let bytes : s ≡ after e from = ap (λ (r : AdsDataTypeInfo). r.sub_items.bytes) t.is in
    let left : length s.now ≡ size - from = ap (λ (x : Bor (List ℕ)). length x.now) bytes ∙ length-drop from e.now ∙ ap (λ (x : ℕ). x - from) long in
    let is : s ≡ part u (n.place + from) (length s.now) =
    bytes ∙ after_is e from ∙ ap (λ (x : ℕ). part e from (x - from)) long ∙ part_in u n.place size from (size - from) (omega (arith, room)) ∙ ap (part u (n.place + from)) (sym left) in
    let whole : n.info.field.length ≡ size = ap (λ (r : AdsDataTypeInfo). r.field.length) t.is ∙ long in
    let starts : items_start n ≡ n.place + from = omega (arith, whole, left, room, st.room, st.small) in
    let count : n.info.sub_items.count ≡ le2 u.now (n.place + 40) = ap (λ (r : AdsDataTypeInfo). r.sub_items.count) t.is ∙ le2_part u.now n.place size 40 (omega (arith, strings)) in
    let place : n.place + from + 0 ≡ first_place u.now n.place =
    omega (
      arith,
      le2_part u.now n.place size 32 (omega (arith, strings)),
      le2_part u.now n.place size 34 (omega (arith, strings)),
      le2_part u.now n.place size 36 (omega (arith, strings)),
      le2_part u.now n.place size 38 (omega (arith, strings)),
    ) in
    let none_before : length s.now - 0 ≡ length s.now = omega arith in
    let o = holds mode 15 e n.info st.read in
    let read = ap (λ (x : Bor (List ℕ)). items_from (item_at mode 15) x n.info.sub_items.count) (sym (after_zero s)) ∙ o.read in
    let members = all mode u st.small n s (n.place + from) is (omega (arith, left, room, st.room)) starts 15 (omega arith) n.info.sub_items.count 0 o.items read in
    let from_first = subst (λ (x : ℕ). AreMembers mode u n (n.place + from + 0) n.info.sub_items.count (members_from n n.info.sub_items.count (pieces_from (type_of mode) s 0 x))) none_before members in
    let there = subst (λ (x : ℕ). AreMembers mode u n x n.info.sub_items.count (members_of mode n)) place from_first in
    subst (λ (x : ℕ). AreMembers mode u n (first_place u.now n.place) x (members_of mode n)) count there

-- What is read is read alike where there may be more levels.
use Rattle.std.proofs.Common.{ℕ, zero, suc, ◌+◌, ◌≡◌, ap, List, Bor}
use native.Mathlib.Nat.{zero-add, suc-add}
use Rattle.std.specs.Prelude.{Result, Ok}
use Rattle.refusal.specs.declared.Mode.{Mode}
use Rattle.refusal.specs.declared.Refusal.{Refusal}
use Rattle.data_type.specs.declared.AdsDataTypeInfo.{AdsDataTypeInfo}
use Rattle.data_type.specs.declared.reader.SubItemsRead.{SubItemsRead}
use Rattle.data_type.specs.DataType.{ItemReader, taken, items_from, type_with, too_deep, item_by, type_at}
use Rattle.part.proofs.Outcome.{both_passed}
use Rattle.data_type.specs.Accepted.{Accepted, accepted}

-- what passed is read
pub build : (mode : Mode) (item : ItemReader) (e : Bor (List ℕ)) (r : AdsDataTypeInfo) → Accepted mode item e r → type_with mode item e ≡ Ok r
unfolding type_with
build mode item e r a = simp (a.front_is, a.arrays_are, a.items_are, a.tail_is) (ap Ok a.is)

-- where each sub-item that is read by one reader is read alike by another
module _ (item other : ItemReader) (each : (s : Bor (List ℕ)) (p : AdsDataTypeInfo × Bor (List ℕ)) → item s ≡ Ok p → other s ≡ Ok p) where
  pub items_more : (left : ℕ) (s : Bor (List ℕ)) (items : SubItemsRead) → items_from item s left ≡ Ok items → items_from other s left ≡ Ok items
  unfolding items_from
  items_more zero s items h = h
  items_more (suc left) s items h =
      let p = both_passed (item s) h in
      let m = both_passed (items_from item p.0.1 left) p.1.1 in
      simp (each s p.0 p.1.0, items_more left p.0.1 m.0 m.1.0) m.1.1

  with_more : (mode : Mode) (e : Bor (List ℕ)) (r : AdsDataTypeInfo) → type_with mode item e ≡ Ok r → type_with mode other e ≡ Ok r
  with_more mode e r h =
      let a = accepted mode item e r h in
      build mode other e r
      (record {
        front = a.front;
        arrays = a.arrays;
        first = a.first;
        items = a.items;
        tail = a.tail;
        front_is = a.front_is;
        arrays_are = a.arrays_are;
        items_are = items_more a.front.sub_item_count a.first a.items a.items_are;
        tail_is = a.tail_is;
        is = a.is;
      })

by_more : (one other : Bor (List ℕ) → Result AdsDataTypeInfo Refusal) → ((d : Bor (List ℕ)) (i : AdsDataTypeInfo) → one d ≡ Ok i → other d ≡ Ok i)
    → (s : Bor (List ℕ)) (p : AdsDataTypeInfo × Bor (List ℕ)) → item_by one s ≡ Ok p → item_by other s ≡ Ok p
by_more one other each s p h =
    let t = both_passed (taken s) h in
    let i = both_passed (one t.0.0) t.1.1 in
    simp (t.1.0, each t.0.0 i.0 i.1.0) i.1.1

never_deep : {A : Type 0} (s : Bor (List ℕ)) (p : AdsDataTypeInfo × Bor (List ℕ)) → too_deep s ≡ Ok p → A
never_deep s p h = cc h

pub one_deeper : (mode : Mode) (left : ℕ) (e : Bor (List ℕ)) (r : AdsDataTypeInfo) → type_at mode left e ≡ Ok r → type_at mode (suc left) e ≡ Ok r
unfolding type_at
one_deeper mode zero e r h = with_more too_deep (item_by (type_at mode zero)) (λ s p k. never_deep s p k) mode e r h
one_deeper mode (suc left) e r h =
    with_more (item_by (type_at mode left)) (item_by (type_at mode (suc left))) (by_more (type_at mode left) (type_at mode (suc left)) (one_deeper mode left)) mode e r h

pub deeper : (mode : Mode) (more left : ℕ) (e : Bor (List ℕ)) (r : AdsDataTypeInfo) → type_at mode left e ≡ Ok r → type_at mode (more + left) e ≡ Ok r
deeper mode zero left e r h = simp zero-add h
deeper mode (suc more) left e r h = simp suc-add (one_deeper mode (more + left) e r (deeper mode more left e r h))

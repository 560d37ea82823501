-- docs/FORMAT.md, "Walking": a walk stops with 10, and no refusal of the reader is 10.
use Rattle.std.proofs.Common.{ℕ, zero, suc, ◌≡◌, List, arith, Bor}
use Rattle.std.specs.Prelude.{false, Result, Ok, Err}
use Rattle.part.specs.Outcome.{and_then}
use Rattle.refusal.specs.declared.Mode.{Mode}
use Rattle.refusal.specs.declared.Refusal.{Refusal}
use Rattle.walk.specs.Zero.{is_zero}
use Rattle.field.specs.declared.front.Front.{Front}
use Rattle.field.specs.Front.{front_of}
use Rattle.field.specs.Tail.{tail_of}
use Rattle.field.specs.Own.{front_own, tail_own}
use Rattle.data_type.specs.declared.AdsDataTypeInfo.{AdsDataTypeInfo}
use Rattle.data_type.specs.DataType.{ItemReader, taken, items_from, arrays_of, type_with, type_at, item_by, too_deep}

-- a fault is that of a step or of the next
own_then : {A B : Type 0} (r : Result A Refusal) (next : A → Result B Refusal) (why : Refusal) → ((x : Refusal) → r ≡ Err x → is_zero x ≡ false)
    → ((a : A) → next a ≡ Err why → is_zero why ≡ false) → and_then r next ≡ Err why → is_zero why ≡ false
own_then (Ok a) next why p q h = q a h
own_then (Err x) next why p q h = p why (cc h)

taken_own : (s : Bor (List ℕ)) (why : Refusal) → taken s ≡ Err why → is_zero why ≡ false
unfolding taken
taken_own s why h = grind arith

arrays_own : (f : Front) (why : Refusal) → arrays_of f ≡ Err why → is_zero why ≡ false
unfolding arrays_of
arrays_own f why h = grind arith

module _ (item : ItemReader) (each : (s : Bor (List ℕ)) (why : Refusal) → item s ≡ Err why → is_zero why ≡ false) where
  items_own : (left : ℕ) (s : Bor (List ℕ)) (why : Refusal) → items_from item s left ≡ Err why → is_zero why ≡ false
  unfolding items_from
  items_own zero s why h = cc
  items_own (suc left) s why h =
      own_then (item s) _ why (each s) (λ p k. own_then (items_from item p.1 left) _ why (items_own left p.1) (λ more l. cc) k) h

  with_own : (mode : Mode) (e : Bor (List ℕ)) (why : Refusal) → type_with mode item e ≡ Err why → is_zero why ≡ false
  unfolding type_with
  with_own mode e why h =
      own_then (front_of mode e) _ why (front_own mode e)
      (λ f k. own_then (arrays_of f) _ why (arrays_own f)
      (λ a l. own_then (items_from item a.1 f.sub_item_count) _ why (items_own f.sub_item_count a.1)
      (λ items m. own_then (tail_of mode f items.rest) _ why (tail_own mode f items.rest) (λ t n. cc) m) l) k) h

deep_own : (s : Bor (List ℕ)) (why : Refusal) → too_deep s ≡ Err why → is_zero why ≡ false
deep_own s why h = grind arith

by_own : (entry : Bor (List ℕ) → Result AdsDataTypeInfo Refusal) → ((e : Bor (List ℕ)) (why : Refusal) → entry e ≡ Err why → is_zero why ≡ false)
    → (s : Bor (List ℕ)) (why : Refusal) → item_by entry s ≡ Err why → is_zero why ≡ false
by_own entry each s why h = own_then (taken s) _ why (taken_own s) (λ p k. own_then (entry p.0) _ why (each p.0) (λ info l. cc) k) h

pub type_own : (mode : Mode) (left : ℕ) (e : Bor (List ℕ)) (why : Refusal) → type_at mode left e ≡ Err why → is_zero why ≡ false
unfolding type_at
type_own mode zero e why h = with_own too_deep deep_own mode e why h
type_own mode (suc left) e why h = with_own (item_by (type_at mode left)) (by_own (type_at mode left) (type_own mode left)) mode e why h

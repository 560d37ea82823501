-- What is read of a field laid out: proved.
use Rattle.std.proofs.Common.{ℕ, zero, suc, ◌+◌, ◌-◌, ◌<◌, ◌≤◌, ◌≡◌, refl, sym, ap, ap₂, ◌∙◌, Bool, true, false, List, [], ◌∷◌, ◌++◌, length, take, drop, Ok, Err, Result, min, arith, Bor, length-append, length-drop, append_assoc}
use Rattle.std.specs.Prelude.{Option, Some, None, eqb, if◌then◌else◌}
use Rattle.std.specs.List.{All, concat}
use Rattle.std.proofs.lemmas.List.{take_at, drop_at}
use Rattle.std.proofs.lemmas.List.Elements.{All-head, All-tail}
use native.Mathlib.Nat.{add-zero}
use lib.ListN.{get_or-append}
use lib.Seq.{drop-drop}
use borrow.Author.Tests.{le-ltb, le-leb, lt-leb, eqb-true}
use Rattle.le.specs.Le.{le2, le4, bytes2, has}
use Rattle.le.proofs.Laws.{le2_bytes2}
use Rattle.part.specs.Slice.{after}
use Rattle.part.specs.Outcome.{and_then}
use Rattle.refusal.specs.declared.Mode.TheVariants.{Present}
use Rattle.refusal.specs.declared.Refusal.{Refusal}
use Rattle.attribute.specs.declared.AdsAttribute.{AdsAttribute}
use Rattle.attribute.specs.declared.Attributes.{Attributes}
use Rattle.attribute.specs.Attribute.{first_of, listed, after_listed, stopped}
use Rattle.part.proofs.Slice.{after_after}
use Rattle.attribute.proofs.Laws.{listed_more, listed_stop, after_more, after_none, nothing_listed, nothing_after}
use Rattle.field.specs.declared.front.Front.{Front}
use Rattle.field.specs.Skip.{ahead, after_items}
use Rattle.field.specs.Front.{with_strings, front_by_header}
use Rattle.layout.specs.Layout.{guid_of}
use Rattle.field.specs.Tail.{type_guid_flag, copy_mask_flag, method_infos_flag, attributes_flag, after_mask, after_methods, attributes_of, complete}
use Rattle.field.specs.Field.{joined, behind_items, field_of}
use Rattle.field.specs.Laid.{IsItem, Parts, section, guid_told, flags_of, IsLaid, Shows, all, ended, refused, field_with, FieldsLaid}
use Rattle.field.proofs.Tested.{read_is}

-- some bytes of an entry from a place on
record At (e : Bor (List ℕ)) (p : ℕ) (bytes : List ℕ) : Type 0 where
  is : drop p e.now ≡ bytes
  room : p ≤ length e.now

length_at : {e : Bor (List ℕ)} {p : ℕ} {bytes : List ℕ} → At e p bytes → length e.now ≡ p + length bytes
length_at {e} {p} {bytes} a = let l : length bytes ≡ length e.now - p = ap length (sym a.is) ∙ length-drop p e.now in omega (arith, a.room)

behind : {e : Bor (List ℕ)} {p : ℕ} (part more : List ℕ) → At e p (part ++ more) → At e (p + length part) more
behind {e} {p} part more a =
    let l = length_at a in
    let m = length-append part more in
    record { is = sym (drop-drop (length part) p e.now) ∙ ap (drop (length part)) a.is ∙ drop_at part more (length part) refl; room = omega arith }

four_of : (xs ys : List ℕ) → 4 ≤ length xs → le4 (xs ++ ys) 0 ≡ le4 xs 0
unfolding le4
four_of xs ys h = simp (get_or-append xs ys 0 0 (omega arith), get_or-append xs ys 0 1 (omega arith), get_or-append xs ys 0 2 (omega arith), get_or-append xs ys 0 3 (omega arith))

ahead_at : (e : Bor (List ℕ)) (p n : ℕ) → p + n ≤ length e.now → ahead (after e p) n ≡ after e (p + n)
ahead_at e p n h =
    let l : length (drop p e.now) ≡ length e.now - p = length-drop p e.now in
    let m : min n (length (drop p e.now)) ≡ n = omega arith in
    ap (after (after e p)) m ∙ after_after e p n

items_passed : (e : Bor (List ℕ)) (p : ℕ) (items : List (List ℕ)) (more : List ℕ) → All IsItem items → At e p (concat items ++ more) → after_items (after e p) (length items) ≡ after e (p + length (concat items))
unfolding after_items
items_passed e p [] more h a = ap (after e) (sym (add-zero p))
items_passed e p (item ∷ items) more h a =
    let i = All-head IsItem item items h in
    let b : At e p (item ++ (concat items ++ more)) = record { is = a.is ∙ append_assoc item (concat items) more; room = a.room } in
    let l = length_at b in
    let m = length-append item (concat items ++ more) in
    let n = length-append item (concat items) in
    let c : le4 (drop p e.now) 0 ≡ length item = ap (λ (xs : List ℕ). le4 xs 0) b.is ∙ four_of item (concat items ++ more) i.least ∙ i.claims in
    let d : length (drop p e.now) ≡ length e.now - p = length-drop p e.now in
    let r = items_passed e (p + length item) items more (All-tail IsItem item items h) (behind item (concat items ++ more) b) in
    let k : p + length item + length (concat items) ≡ p + length (concat (item ∷ items)) = omega (arith, i.least) in
    simp (le-ltb (length (drop p e.now)) 4 (omega (arith, i.least)), c) (ap (λ (s : Bor (List ℕ)). after_items s (length items)) (ahead_at e p (length item) (omega arith)) ∙ r ∙ ap (after e) k)

guid_at : (e : Bor (List ℕ)) (p : ℕ) (flagged : Bool) (guid more : List ℕ) → length guid ≡ 16 → At e p (section flagged guid ++ more) → guid_of (after e p) flagged ≡ (guid_told flagged guid, after e (p + length (section flagged guid)))
unfolding guid_of
guid_at e p true guid more h a =
    let l = length_at a in
    let m = length-append guid more in
    let d : length (drop p e.now) ≡ length e.now - p = length-drop p e.now in
    let t : take 16 (drop p e.now) ≡ guid = ap (take 16) a.is ∙ take_at guid more 16 h in
    simp (le-leb 16 (length (drop p e.now)) (omega arith), t) (ap (λ (s : Bor (List ℕ)). (Some guid, s)) (after_after e p 16 ∙ ap (λ (n : ℕ). after e (p + n)) (sym h)))
guid_at e p false guid more h a = ap (λ (n : ℕ). (None, after e n)) (sym (add-zero p))

mask_at : (e : Bor (List ℕ)) (p size : ℕ) (flagged : Bool) (mask more : List ℕ) → length mask ≡ size → At e p (section flagged mask ++ more) → after_mask (after e p) size flagged ≡ after e (p + length (section flagged mask))
unfolding after_mask
mask_at e p size true mask more h a =
    let l = length_at a in
    let m = length-append mask more in
    ahead_at e p size (omega arith) ∙ ap (λ (n : ℕ). after e (p + n)) (sym h)
mask_at e p size false mask more h a = ap (after e) (sym (add-zero p))

methods_at : (e : Bor (List ℕ)) (p : ℕ) (flagged : Bool) (methods : List (List ℕ)) (more : List ℕ) → length methods ≤ 65535 → All IsItem methods
    → At e p (section flagged (bytes2 (length methods) ++ concat methods) ++ more) → after_methods (after e p) flagged ≡ after e (p + length (section flagged (bytes2 (length methods) ++ concat methods)))
unfolding after_methods
methods_at e p true methods more few h a =
    let count : List ℕ = bytes2 (length methods) in
    let b : At e p (count ++ (concat methods ++ more)) = record { is = a.is ∙ append_assoc count (concat methods) more; room = a.room } in
    let l = length_at b in
    let m = length-append count (concat methods ++ more) in
    let n = length-append count (concat methods) in
    let d : length (drop p e.now) ≡ length e.now - p = length-drop p e.now in
    let c : le2 (drop p e.now) 0 ≡ length methods = ap (λ (xs : List ℕ). le2 xs 0) b.is ∙ le2_bytes2 (length methods) (concat methods ++ more) (omega arith) in
    let k : p + 2 + length (concat methods) ≡ p + length (count ++ concat methods) = omega arith in
    simp (le-leb 2 (length (drop p e.now)) (omega arith), c)
    (ap (λ (s : Bor (List ℕ)). after_items s (length methods)) (after_after e p 2) ∙ items_passed e (p + 2) methods more h (behind count (concat methods ++ more) b) ∙ ap (after e) k)
methods_at e p false methods more few h a = ap (after e) (sym (add-zero p))

-- how many attributes are shown, and why there are no more
pub record Comes (s : Bor (List ℕ)) (count n : ℕ) (why : Option Refusal) : Type 0 where
  pub long : length (listed s count) ≡ n
  pub stops : stopped s count ≡ why

one_more : (s : Bor (List ℕ)) (count n : ℕ) (why : Option Refusal) (p : AdsAttribute × Bor (List ℕ)) → first_of s ≡ Ok p → (length p.1.now ≡ 0 → why ≡ None) → Comes p.1 count n why → Comes s (suc count) (suc n) why
unfolding stopped
one_more s count n why p f z c = record { long = ap length (listed_more s count p f) ∙ ap suc c.long; stops = simp f (by (eqb (length p.1.now) 0) refl) }
  where
    by : (b : Bool) → eqb (length p.1.now) 0 ≡ b → (if b then None else stopped p.1 count) ≡ why
    by true h = sym (z (eqb-true (length p.1.now) 0 h))
    by false h = c.stops

-- the first of some that are read
record First (s : Bor (List ℕ)) (n : ℕ) : Type 0 where
  p : AdsAttribute × Bor (List ℕ)
  is : first_of s ≡ Ok p
  more : length (listed p.1 n) ≡ n
  after : after_listed s (suc n) ≡ after_listed p.1 n

first_read : (s : Bor (List ℕ)) (n : ℕ) → length (listed s (suc n)) ≡ suc n → First s n
first_read s n h = by (first_of s) refl
  where
    by : (w : Result (AdsAttribute × Bor (List ℕ)) Refusal) → first_of s ≡ w → First s n
    by (Ok p) f = let l : length (listed s (suc n)) ≡ suc (length (listed p.1 n)) = ap length (listed_more s n p f) in record { p = p; is = f; more = omega (arith, h, l); after = after_more s n p f }
    by (Err why) f = let l : length (listed s (suc n)) ≡ 0 = ap length (listed_stop s n why f) in absurd (omega (arith, h, l))

all_come : (count : ℕ) (s : Bor (List ℕ)) → length (listed s count) ≡ count → Comes s count count None
unfolding stopped
all_come zero s h = record { long = h; stops = refl }
all_come (suc count) s h = let f = first_read s count h in one_more s count count None f.p f.is (λ z. refl) (all_come count f.p.1 f.more)

nothing_comes : (s : Bor (List ℕ)) (count : ℕ) → length s.now ≡ 0 → length (listed s count) ≡ 0
nothing_comes s count h = ap length (nothing_listed s count h)

end_comes : (n count : ℕ) (s : Bor (List ℕ)) → 1 ≤ n → n ≤ count → length (listed s n) ≡ n → length (after_listed s n).now ≡ 0 → Comes s count n None
unfolding stopped
end_comes zero count s a b h z = absurd (omega arith)
end_comes (suc n) zero s a b h z = absurd (omega arith)
end_comes (suc zero) (suc count) s a b h z =
    let f = first_read s zero h in
    let e : length f.p.1.now ≡ 0 = ap (λ (x : Bor (List ℕ)). length x.now) (sym (f.after ∙ after_none f.p.1)) ∙ z in
    record { long = ap length (listed_more s count f.p f.is) ∙ ap suc (nothing_comes f.p.1 count e); stops = simp (f.is, e) refl }
end_comes (suc (suc n)) (suc count) s a b h z =
    let f = first_read s (suc n) h in
    one_more s count (suc n) None f.p f.is (λ y. refl) (end_comes (suc n) count f.p.1 (omega arith) (omega arith) f.more (ap (λ (x : Bor (List ℕ)). length x.now) (sym f.after) ∙ z))

refused_comes : (n count : ℕ) (s : Bor (List ℕ)) (why : Refusal) → n < count → length (listed s n) ≡ n → (1 ≤ n → 1 ≤ length (after_listed s n).now) → first_of (after_listed s n) ≡ Err why → Comes s count n (Some why)
unfolding stopped
refused_comes n zero s why a h l f = absurd (omega arith)
refused_comes zero (suc count) s why a h l f =
    let g : first_of s ≡ Err why = ap first_of (sym (after_none s)) ∙ f in
    record { long = ap length (listed_stop s count why g); stops = simp g }
refused_comes (suc n) (suc count) s why a h l f =
    let x = first_read s n h in
    let m : 1 ≤ length (after_listed x.p.1 n).now = rw (sym x.after) (l (omega arith)) in
    let z : length x.p.1.now ≡ 0 → ◌≡◌ {A = Option Refusal} (Some why) None = λ e. let y : length (after_listed x.p.1 n).now ≡ 0 = ap (λ (q : Bor (List ℕ)). length q.now) (nothing_after x.p.1 n e) ∙ e in absurd (omega (arith, m, y)) in
    one_more s count n (Some why) x.p x.is z (refused_comes n count x.p.1 why (omega arith) x.more (λ _. m) (ap first_of (sym x.after) ∙ f))

pub comes : {s : Bor (List ℕ)} {count n : ℕ} {why : Option Refusal} → Shows s count n why → Comes s count n why
comes {s} {count} (all h) = all_come count s h
comes {s} {count} (ended n a b h z) = end_comes n count s a b h z
comes {s} {count} (refused n why a h l f) = refused_comes n count s why a h l f

module _ (e : Bor (List ℕ)) (p : Parts) (more : List ℕ) (l : IsLaid e p more) where
  abbrev w : ℕ
  w = flags_of e

  abbrev f : Front
  f = front_by_header e

  abbrev from : ℕ
  from = 45 + le2 e.now 32 + le2 e.now 34 + le2 e.now 36

  abbrev guid : List ℕ
  guid = section (has w type_guid_flag) p.guid

  abbrev mask : List ℕ
  mask = section (has w copy_mask_flag) p.mask

  abbrev methods : List ℕ
  methods = section (has w method_infos_flag) (bytes2 (length p.methods) ++ concat p.methods)

  at0 : At e from (p.arrays ++ (concat p.items ++ (guid ++ (mask ++ (methods ++ more)))))
  at0 = record { is = l.bytes; room = l.strings.strings }

  at1 : At e (from + length p.arrays) (concat p.items ++ (guid ++ (mask ++ (methods ++ more))))
  at1 = behind p.arrays (concat p.items ++ (guid ++ (mask ++ (methods ++ more)))) at0

  at2 : At e (from + length p.arrays + length (concat p.items)) (guid ++ (mask ++ (methods ++ more)))
  at2 = behind (concat p.items) (guid ++ (mask ++ (methods ++ more))) at1

  at3 : At e (from + length p.arrays + length (concat p.items) + length guid) (mask ++ (methods ++ more))
  at3 = behind guid (mask ++ (methods ++ more)) at2

  at4 : At e (from + length p.arrays + length (concat p.items) + length guid + length mask) (methods ++ more)
  at4 = behind mask (methods ++ more) at3

  abbrev place : ℕ
  place = from + length p.arrays + length (concat p.items) + length guid + length mask + length methods

  at5 : At e place more
  at5 = behind methods more at4

  place_is : place ≡ length e.now - length more
  place_is = let n = length_at at5 in omega arith

  items_are : behind_items f ≡ after e (from + length p.arrays + length (concat p.items))
  unfolding with_strings
  items_are =
      let n = length_at at1 in
      ap₂ (λ (x y : ℕ). after_items (ahead (after e from) x) y) (sym l.arrays) (sym l.count)
      ∙ ap (λ (s : Bor (List ℕ)). after_items s (length p.items)) (ahead_at e from (length p.arrays) at1.room)
      ∙ items_passed e (from + length p.arrays) p.items (guid ++ (mask ++ (methods ++ more))) l.items at1

  guid_is : guid_of (behind_items f) (has w type_guid_flag) ≡ (guid_told (has w type_guid_flag) p.guid, after e (from + length p.arrays + length (concat p.items) + length guid))
  guid_is = ap (λ (s : Bor (List ℕ)). guid_of s (has w type_guid_flag)) items_are ∙ guid_at e (from + length p.arrays + length (concat p.items)) (has w type_guid_flag) p.guid (mask ++ (methods ++ more)) l.guid at2

  sections_are : (s : Bor (List ℕ)) → s ≡ after e (from + length p.arrays + length (concat p.items) + length guid) → after_methods (after_mask s (le4 e.now 16) (has w copy_mask_flag)) (has w method_infos_flag) ≡ after e place
  sections_are s h =
      ap (λ (x : Bor (List ℕ)). after_methods (after_mask x (le4 e.now 16) (has w copy_mask_flag)) (has w method_infos_flag)) h
      ∙ ap (λ (x : Bor (List ℕ)). after_methods x (has w method_infos_flag)) (mask_at e (from + length p.arrays + length (concat p.items) + length guid) (le4 e.now 16) (has w copy_mask_flag) p.mask (methods ++ more) l.mask at3)
      ∙ methods_at e (from + length p.arrays + length (concat p.items) + length guid + length mask) (has w method_infos_flag) p.methods more l.few l.methods at4

  abbrev found : Attributes × Option Refusal
  found = attributes_of (after e place) (has w attributes_flag)

  field_is : field_of Present e ≡ and_then (complete found.1) (λ _. Ok (joined f (record { guid = guid_told (has w type_guid_flag) p.guid; attributes = found.0 })))
  unfolding with_strings
  field_is =
      let s = sections_are (guid_of (behind_items f) (has w type_guid_flag)).1 (ap (λ (x : Option (List ℕ) × Bor (List ℕ)). x.1) guid_is) in
      read_is e Present l.strings
      ∙ ap₂ (λ (g : Option (List ℕ)) (x : Attributes × Option Refusal). and_then (complete x.1) (λ _. Ok (joined f (record { guid = g; attributes = x.0 }))))
      (ap (λ (x : Option (List ℕ) × Bor (List ℕ)). x.0) guid_is) (ap (λ (x : Bor (List ℕ)). attributes_of x (has w attributes_flag)) s)

  none_by : (flagged : Bool) → (flagged ≡ true → length more < 2) → attributes_of (after e place) flagged ≡ (record { bytes = after e place; count = 0 }, None)
  unfolding attributes_of
  none_by true h = let d : length (drop place e.now) ≡ length more = ap length at5.is in simp (lt-leb 2 (length (drop place e.now)) (omega (arith, h refl)))
  none_by false h = refl

  without : (has w attributes_flag ≡ true → length more < 2) → field_of Present e ≡ Ok (field_with e p (after e (length e.now - length more)) 0)
  without h =
      field_is ∙ ap (λ (x : Attributes × Option Refusal). and_then (complete x.1) (λ _. Ok (joined f (record { guid = guid_told (has w type_guid_flag) p.guid; attributes = x.0 })))) (none_by (has w attributes_flag) h)
      ∙ ap (λ (n : ℕ). Ok (field_with e p (after e n) 0)) place_is

  some_by : (flagged : Bool) (n : ℕ) (why : Option Refusal) → flagged ≡ true → 2 ≤ length more → Comes (after e (length e.now - length more + 2)) (le2 more 0) n why
      → attributes_of (after e place) flagged ≡ (record { bytes = after e (length e.now - length more + 2); count = n }, why)
  unfolding attributes_of
  some_by true n why t m c =
      let d : length (drop place e.now) ≡ length more = ap length at5.is in
      let k : le2 (drop place e.now) 0 ≡ le2 more 0 = ap (λ (x : List ℕ). le2 x 0) at5.is in
      let b : after (after e place) 2 ≡ after e (length e.now - length more + 2) = after_after e place 2 ∙ ap (λ (x : ℕ). after e (x + 2)) place_is in
      simp (le-leb 2 (length (drop place e.now)) (omega arith), k, b, c.long, c.stops)
  some_by false n why t m c = cc

  with_attributes : (n : ℕ) (why : Option Refusal) → has w attributes_flag ≡ true → 2 ≤ length more → Shows (after e (length e.now - length more + 2)) (le2 more 0) n why
      → field_of Present e ≡ and_then (complete why) (λ _. Ok (field_with e p (after e (length e.now - length more + 2)) n))
  with_attributes n why t m s =
      field_is ∙ ap (λ (x : Attributes × Option Refusal). and_then (complete x.1) (λ _. Ok (joined f (record { guid = guid_told (has w type_guid_flag) p.guid; attributes = x.0 }))))
      (some_by (has w attributes_flag) n why t m (comes s))

pub fields_laid : FieldsLaid
fields_laid e p more l =
    record {
      without = λ h. without e p more l (λ k. cc);
      short = λ h. without e p more l (λ k. h);
      read = λ t m n s. with_attributes e p more l n None t m s;
      refused = λ t m n why s. with_attributes e p more l n (Some why) t m s;
    }

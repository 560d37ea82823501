-- Where each part of a field begins: proved.
use Rattle.std.proofs.Common.{ℕ, subst, zero, suc, ◌+◌, ◌-◌, ◌*◌, ◌≤◌, ◌≡◌, refl, sym, ap, ap₂, ◌∙◌, Bool, true, false, List, Ok, Err, Result, length, take, drop, min, arith, Bor, length-drop}
use Rattle.std.specs.Prelude.{Option, Some, None, leb, eqb, if◌then◌else◌}
use lib.Seq.{get_or-drop}
use native.Mathlib.Nat.{add-zero}
use borrow.Author.Tests.{lt-ltb, le-ltb, leb-true, leb-false, eqb-true}
use Rattle.le.specs.Le.{le2, le4, has}
use Rattle.part.specs.Slice.{after}
use Rattle.part.specs.Outcome.{and_then}
use Rattle.refusal.specs.declared.Mode.TheVariants.{Present}
use Rattle.refusal.specs.declared.Refusal.{Refusal}
use Rattle.attribute.specs.declared.AdsAttribute.{AdsAttribute}
use Rattle.attribute.specs.declared.Attributes.{Attributes}
use Rattle.attribute.specs.Attribute.{first_of, listed, after_listed}
use Rattle.part.proofs.Slice.{after_after}
use Rattle.attribute.proofs.Laws.{listed_more, listed_none, after_more, after_none}
use Rattle.field.specs.Skip.{ahead, after_items}
use Rattle.field.specs.Front.{with_strings, front_by_header, HasStrings}
use Rattle.layout.specs.Layout.{guid_of}
use Rattle.field.specs.Tail.{type_guid_flag, copy_mask_flag, method_infos_flag, attributes_flag, after_mask, after_methods, attributes_of, complete}
use Rattle.field.specs.Field.{joined, behind_items, field_of}
use Rattle.field.specs.Placed.{behind, arrays_at, items_at, guid_at, mask_at, methods_at, attributes_at, guid_there, IsPlaced, FieldsPlaced, field_there, ShowsSome, IsReadThere, FieldsRead}
use Rattle.field.specs.Laid.{Shows, all, ended, refused}
use Rattle.field.proofs.Within.{accepted_is, record_is}
use Rattle.field.proofs.Tested.{read_is}
use Rattle.field.proofs.Laid.{Comes, comes}

-- an attribute that is read, before those that are shown behind it
shows_more : (s : Bor (List ℕ)) (count : ℕ) (p : AdsAttribute × Bor (List ℕ)) → first_of s ≡ Ok p → 1 ≤ length p.1.now → ShowsSome p.1 count → ShowsSome s (suc count)
shows_more s count p f l more = by more.n more.why more.shows
  where
    by : (n : ℕ) (why : Option Refusal) → Shows p.1 count n why → ShowsSome s (suc count)
    by n why (all h) = record { n = suc count; why = None; shows = all (ap length (listed_more s count p f) ∙ ap suc h) }
    by n why (ended m a b h z) =
        record {
          n = suc m;
          why = None;
          shows = ended (suc m) (omega arith) (omega arith) (ap length (listed_more s m p f) ∙ ap suc h) (ap (λ (q : Bor (List ℕ)). length q.now) (after_more s m p f) ∙ z);
        }
    by n why (refused m cause a h o g) =
        record {
          n = suc m;
          why = Some cause;
          shows = refused (suc m) cause (omega arith) (ap length (listed_more s m p f) ∙ ap suc h) (λ t. rw (after_more s m p f) (left_behind m o)) (ap first_of (after_more s m p f) ∙ g);
        }
      where
        left_behind : (m : ℕ) → (1 ≤ m → 1 ≤ length (after_listed p.1 m).now) → 1 ≤ length (after_listed p.1 m).now
        left_behind zero o = rw (after_none p.1) l
        left_behind (suc m) o = o (omega arith)

shows_some : (count : ℕ) (s : Bor (List ℕ)) → ShowsSome s count
shows_some zero s = record { n = zero; why = None; shows = all (ap length (listed_none s)) }
shows_some (suc count) s = by_first (λ q. shows_some count q) (first_of s) refl
  where
    by_first : ((q : Bor (List ℕ)) → ShowsSome q count) → (w : Result (AdsAttribute × Bor (List ℕ)) Refusal) → first_of s ≡ w → ShowsSome s (suc count)
    by_first on (Err why) f =
        record { n = zero; why = Some why; shows = refused zero why (omega arith) (ap length (listed_none s)) (λ l. absurd (omega arith)) (ap first_of (after_none s) ∙ f) }
    by_first on (Ok p) f = by_end (eqb (length p.1.now) 0) refl
      where
        by_end : (b : Bool) → eqb (length p.1.now) 0 ≡ b → ShowsSome s (suc count)
        by_end true h =
            record {
              n = 1;
              why = None;
              shows = ended 1 (omega arith) (omega arith) (ap length (listed_more s zero p f) ∙ ap suc (ap length (listed_none p.1)))
                  (ap (λ (q : Bor (List ℕ)). length q.now) (after_more s zero p f ∙ after_none p.1) ∙ eqb-true (length p.1.now) 0 h);
            }
        by_end false h = shows_more s count p f (some_left (length p.1.now) h) (on p.1)
          where
            some_left : (n : ℕ) → eqb n 0 ≡ false → 1 ≤ n
            some_left zero h = cc
            some_left (suc n) h = omega arith

module _ (e : Bor (List ℕ)) where
  -- the bytes from a place on, or the entry's end where the place is past it
  abbrev from : ℕ → Bor (List ℕ)
  from at = after e (min at (length e.now))

  abbrev left : ℕ → ℕ
  left at = length e.now - at

  abbrev there : Bool → ℕ → ℕ → Bool
  there flagged at size = if flagged then leb size (left at) else false

  length_from : (at : ℕ) → length (from at).now ≡ left at
  length_from at = let l = length-drop (min at (length e.now)) e.now in omega (arith, l)

  two_from : (at : ℕ) → 2 ≤ left at → le2 (from at).now 0 ≡ le2 e.now at
  unfolding le2
  two_from at h = let m : min at (length e.now) ≡ at = omega arith in simp (m, get_or-drop, add-zero)

  four_from : (at : ℕ) → 4 ≤ left at → le4 (from at).now 0 ≡ le4 e.now at
  unfolding le4
  four_from at h = let m : min at (length e.now) ≡ at = omega arith in simp (m, get_or-drop, add-zero)

  after_from : (at n : ℕ) → n ≤ left at → after (from at) n ≡ from (at + n)
  after_from at n h = after_after e (min at (length e.now)) n ∙ ap (after e) (past at n h)
    where
      past : (at n : ℕ) → n ≤ left at → min at (length e.now) + n ≡ min (at + n) (length e.now)
      past at n h = omega arith

  ahead_from : (at n : ℕ) → ahead (from at) n ≡ from (at + n)
  ahead_from at n =
      let l = length_from at in
      let m : min at (length e.now) + min n (length (from at).now) ≡ min (at + n) (length e.now) = omega (arith, l) in
      after_after e (min at (length e.now)) (min n (length (from at).now)) ∙ ap (after e) m

  items_from : (at items : ℕ) → after_items (from at) items ≡ from (behind e.now at items)
  unfolding after_items behind
  items_from at zero = refl
  items_from at (suc items) = by_room (λ next. items_from next items) (leb 4 (left at)) refl
    where
      by_room : ((next : ℕ) → after_items (from next) items ≡ from (behind e.now next items)) → (b : Bool) → leb 4 (left at) ≡ b → after_items (from at) (suc items) ≡ from (if b then behind e.now (at + le4 e.now at) items else at)
      by_room on true h =
          let l = length_from at in
          let r : (4 ≤ left at) = leb-true 4 (left at) h in
          simp (le-ltb (length (from at).now) 4 (omega (arith, l, r)), four_from at r)
          (ap (λ (s : Bor (List ℕ)). after_items s items) (ahead_from at (le4 e.now at)) ∙ on (at + le4 e.now at))
      by_room on false h = let l = length_from at in simp (lt-ltb (length (from at).now) 4 (omega (arith, l, leb-false 4 (left at) h))) refl

  abbrev guid_and_rest : ℕ → Bool → Option (List ℕ) × Bor (List ℕ)
  guid_and_rest at is_left = (if is_left then Some (take 16 (drop at e.now)) else None, from (at + (if is_left then 16 else 0)))

  guid_from : (at : ℕ) (flagged : Bool) → guid_of (from at) flagged ≡ guid_and_rest at (there flagged at 16)
  unfolding guid_of
  guid_from at false = ap (λ (n : ℕ). (None, from n)) (sym (add-zero at))
  guid_from at true = by_room (leb 16 (left at)) refl
    where
      by_room : (b : Bool) → leb 16 (left at) ≡ b → guid_of (from at) true ≡ guid_and_rest at b
      by_room true h =
          let r = leb-true 16 (left at) h in
          let m : min at (length e.now) ≡ at = omega (arith, r) in
          simp (length_from at, h) (ap₂ (λ (n : ℕ) (s : Bor (List ℕ)). (Some (take 16 (drop n e.now)), s)) m (after_from at 16 r))
      by_room false h = simp (length_from at, h) (ap (λ (n : ℕ). (None, from n)) (sym (add-zero at)))

  mask_from : (at size : ℕ) (flagged : Bool) → after_mask (from at) size flagged ≡ from (if flagged then min (at + size) (length e.now) else at)
  unfolding after_mask
  mask_from at size true = ahead_from at size ∙ ap (after e) (cut (at + size))
    where
      cut : (n : ℕ) → min n (length e.now) ≡ min (min n (length e.now)) (length e.now)
      cut n = omega arith
  mask_from at size false = refl

  methods_from : (at : ℕ) (flagged : Bool) → after_methods (from at) flagged ≡ from (if there flagged at 2 then behind e.now (at + 2) (le2 e.now at) else at)
  unfolding after_methods
  methods_from at false = refl
  methods_from at true = by_room (leb 2 (left at)) refl
    where
      by_room : (b : Bool) → leb 2 (left at) ≡ b → after_methods (from at) true ≡ from (if b then behind e.now (at + 2) (le2 e.now at) else at)
      by_room true h =
          let r = leb-true 2 (left at) h in
          simp (length_from at, h) (ap₂ (λ (s : Bor (List ℕ)) (n : ℕ). after_items s n) (after_from at 2 r) (two_from at r) ∙ items_from (at + 2) (le2 e.now at))
      by_room false h = simp (length_from at, h) refl

  record Listed (at : ℕ) (flagged : Bool) (bytes : Bor (List ℕ)) (count : ℕ) : Type 0 where
    bytes_are : bytes ≡ from (at + (if there flagged at 2 then 2 else 0))
    count_is : count ≡ (if there flagged at 2 then length (listed bytes (le2 e.now at)) else 0)

  attributes_from : (at : ℕ) (flagged : Bool) → Listed at flagged (attributes_of (from at) flagged).0.bytes (attributes_of (from at) flagged).0.count
  unfolding attributes_of
  attributes_from at false = record { bytes_are = ap from (sym (add-zero at)); count_is = refl }
  attributes_from at true = by_room (leb 2 (left at)) refl
    where
      by_room : (b : Bool) → leb 2 (left at) ≡ b → Listed at true (attributes_of (from at) true).0.bytes (attributes_of (from at) true).0.count
      by_room true h =
          let r = leb-true 2 (left at) h in
          record {
            bytes_are = simp (length_from at, h) (after_from at 2 r);
            count_is = simp (length_from at, h) (ap (λ (n : ℕ). length (listed (after (from at) 2) n)) (two_from at r));
          }
      by_room false h = record { bytes_are = simp (length_from at, h) (ap from (sym (add-zero at))); count_is = simp (length_from at, h) refl }

  -- one behind another
  abbrev flags : ℕ
  flags = le4 e.now 28

  behind_items_from : HasStrings e → behind_items (front_by_header e) ≡ from (guid_at e.now)
  unfolding with_strings guid_at
  behind_items_from h =
      let m : arrays_at e.now ≡ min (arrays_at e.now) (length e.now) = omega (arith, h.strings) in
      ap (λ (n : ℕ). after_items (ahead (after e n) (8 * le2 e.now 38)) (le2 e.now 40)) m
      ∙ ap (λ (s : Bor (List ℕ)). after_items s (le2 e.now 40)) (ahead_from (arrays_at e.now) (8 * le2 e.now 38))
      ∙ items_from (items_at e.now) (le2 e.now 40)

  guid_read : HasStrings e → guid_of (behind_items (front_by_header e)) (has flags type_guid_flag)
      ≡ guid_and_rest (guid_at e.now) (there (has flags type_guid_flag) (guid_at e.now) 16)
  unfolding mask_at
  guid_read h = ap (λ (s : Bor (List ℕ)). guid_of s (has flags type_guid_flag)) (behind_items_from h) ∙ guid_from (guid_at e.now) (has flags type_guid_flag)

  mask_passed : after_mask (from (mask_at e.now)) (le4 e.now 16) (has flags copy_mask_flag) ≡ from (methods_at e.now)
  unfolding methods_at
  mask_passed = mask_from (mask_at e.now) (le4 e.now 16) (has flags copy_mask_flag)

  methods_passed : after_methods (from (methods_at e.now)) (has flags method_infos_flag) ≡ from (attributes_at e.now)
  unfolding attributes_at
  methods_passed = methods_from (methods_at e.now) (has flags method_infos_flag)

  section_from : HasStrings e → after_methods (after_mask (guid_of (behind_items (front_by_header e)) (has flags type_guid_flag)).1 (le4 e.now 16) (has flags copy_mask_flag)) (has flags method_infos_flag) ≡ from (attributes_at e.now)
  unfolding mask_at
  section_from h =
      ap (λ (g : Option (List ℕ) × Bor (List ℕ)). after_methods (after_mask g.1 (le4 e.now 16) (has flags copy_mask_flag)) (has flags method_infos_flag)) (guid_read h)
      ∙ ap (λ (s : Bor (List ℕ)). after_methods s (has flags method_infos_flag)) mask_passed
      ∙ methods_passed

  pub placed : (h : HasStrings e) → IsPlaced e (record_is e h)
  unfolding with_strings
  placed h =
      let l : Listed (attributes_at e.now) (has flags attributes_flag) (record_is e h).attributes.bytes (record_is e h).attributes.count =
      subst (λ (s : Bor (List ℕ)). Listed (attributes_at e.now) (has flags attributes_flag) (attributes_of s (has flags attributes_flag)).0.bytes (attributes_of s (has flags attributes_flag)).0.count)
      (sym (section_from h)) (attributes_from (attributes_at e.now) (has flags attributes_flag)) in
      record { guid = ap (λ (g : Option (List ℕ) × Bor (List ℕ)). g.0) (guid_read h); attributes = l.bytes_are; count = l.count_is }

  none_from : (at : ℕ) (flagged : Bool) → there flagged at 2 ≡ false → attributes_of (from at) flagged ≡ (record { bytes = from at; count = 0 }, None)
  unfolding attributes_of
  none_from at true h = simp (length_from at, h) refl
  none_from at false h = refl

  some_from : (at : ℕ) (flagged : Bool) (n : ℕ) (why : Option Refusal) → there flagged at 2 ≡ true → Comes (after e (at + 2)) (le2 e.now at) n why
      → attributes_of (from at) flagged ≡ (record { bytes = after e (at + 2); count = n }, why)
  unfolding attributes_of
  some_from at true n why h c =
      let r = leb-true 2 (left at) h in
      let m : min (at + 2) (length e.now) ≡ at + 2 = omega (arith, r) in
      let b : after (from at) 2 ≡ after e (at + 2) = after_from at 2 r ∙ ap (after e) m in
      simp (length_from at, h, two_from at r, b, c.long, c.stops) refl
  some_from at false n why h c = cc

  abbrev found : Attributes × Option Refusal
  found = attributes_of (from (attributes_at e.now)) (has flags attributes_flag)

  field_is : HasStrings e → field_of Present e ≡ and_then (complete found.1) (λ _. Ok (joined (front_by_header e) (record { guid = guid_there e.now; attributes = found.0 })))
  unfolding with_strings
  field_is h =
      read_is e Present h
      ∙ ap₂ (λ (g : Option (List ℕ)) (x : Attributes × Option Refusal). and_then (complete x.1) (λ _. Ok (joined (front_by_header e) (record { guid = g; attributes = x.0 }))))
      (ap (λ (g : Option (List ℕ) × Bor (List ℕ)). g.0) (guid_read h)) (ap (λ (s : Bor (List ℕ)). attributes_of s (has flags attributes_flag)) (section_from h))

  read_with : HasStrings e → (a : Attributes) (why : Option Refusal) → found ≡ (a, why) → field_of Present e ≡ and_then (complete why) (λ _. Ok (field_there e a.bytes a.count))
  read_with h a why f = field_is h ∙ ap (λ (x : Attributes × Option Refusal). and_then (complete x.1) (λ _. Ok (field_there e x.0.bytes x.0.count))) f

  pub read_there : HasStrings e → IsReadThere e
  read_there h =
      record {
        some = λ t. shows_some (le2 e.now (attributes_at e.now)) (after e (attributes_at e.now + 2));
        without = λ t. read_with h (record { bytes = from (attributes_at e.now); count = 0 }) None (none_from (attributes_at e.now) (has flags attributes_flag) t);
        read = λ t n s. read_with h (record { bytes = after e (attributes_at e.now + 2); count = n }) None (some_from (attributes_at e.now) (has flags attributes_flag) n None t (comes s));
        refused = λ t n why s. read_with h (record { bytes = after e (attributes_at e.now + 2); count = n }) (Some why) (some_from (attributes_at e.now) (has flags attributes_flag) n (Some why) t (comes s));
      }

pub fields_read : FieldsRead
fields_read e h = read_there e h

pub fields_placed : FieldsPlaced
fields_placed mode e r h =
    let a = accepted_is mode e r h in
    subst (IsPlaced e) a.is (placed e a.strings)

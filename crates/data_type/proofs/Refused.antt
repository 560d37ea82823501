-- By which refusal bytes are refused that do not stand as a data type: proved.
use Rattle.std.proofs.Common.{ℕ, zero, suc, ◌+◌, ◌-◌, ◌*◌, ◌<◌, ◌≤◌, ◌≡◌, refl, sym, ap, ap₂, subst, ◌∙◌, Bool, true, false, List, length, replicate, arith, Bor, length-drop}
use Rattle.std.specs.Prelude.{ltb, Result, Ok, Err}
use borrow.Author.Tests.{le-ltb, lt-ltb, ltb-true, ltb-false}
use Rattle.le.specs.Le.{le2, le4}
use Rattle.part.specs.Slice.{part, after}
use Rattle.part.specs.Outcome.{and_then}
use Rattle.refusal.specs.Refusal.{limit}
use Rattle.refusal.specs.EndBytes.{ended, in_mode}
use Rattle.refusal.specs.EndsMeant.{FirstNot}
use Rattle.refusal.proofs.EndsMeant.{first_refused, ends_meant}
use Rattle.refusal.specs.declared.Mode.{Mode}
use Rattle.refusal.specs.declared.Mode.TheVariants.{Present, Checked}
use Rattle.refusal.specs.declared.Refusal.{Refusal}
use Rattle.refusal.specs.declared.Refusal.TheVariants.{TooShort, EntryLengthMismatch, ClaimBelowHeader, TooDeep, EndByte}
use Rattle.entry.specs.Entry.{claim_of}
use Rattle.walk.specs.Step.{parse_of}
use Rattle.field.specs.declared.front.Front.{Front}
use Rattle.field.specs.declared.tail.Tail.{Tail}
use Rattle.field.specs.Front.{with_strings, front_of}
use Rattle.field.specs.Tail.{tail_of}
use Rattle.field.specs.Field as field
use Rattle.field.specs.Field.{behind_items, field_of}
use Rattle.field.specs.Skip.{after_items}
use Rattle.data_type.specs.declared.AdsDataTypeInfo.{AdsDataTypeInfo}
use Rattle.data_type.specs.declared.members.Position.{Position}
use Rattle.data_type.specs.declared.reader.SubItemsRead as items
use Rattle.data_type.specs.DataType.{taken, items_from, item_at, arrays_of, type_at, type_of}
use Rattle.walk.specs.Mapped.{map_ok}
use Rattle.data_type.specs.Members.{members_of}
use Rattle.data_type.specs.List.{slots_of}
use Rattle.field.specs.Modes.{strings_end, string_bytes}
use Rattle.data_type.specs.Layout.{arrays_end, HasStrings, front}
use Rattle.data_type.specs.Refused.{Asked, Whole, Many, Claims, IsRefused, strings, ends, arrays, items, sections, deep, few, outside, below, first, later, IsRootRefused, TypesRefused}
use Rattle.data_type.specs.Refused as refused
use Rattle.data_type.proofs.Turns.{item_deep, item_untaken, item_unread, item_read}
use Rattle.data_type.proofs.Entry.{fits, front_refused, arrays_refused, items_refused, tail_refused, is_read}
use Rattle.data_type.proofs.Numbers.{heads}
use Rattle.data_type.proofs.Fronts.{front_there, front_was}
use Rattle.part.proofs.Slice.{after_after, length_part}
use Rattle.data_type.proofs.AsField.{skipped, arrays_skipped}
use Rattle.data_type.proofs.Stands.{taken_there, arrays_there, reads, took, items_stand, entry_stand}

-- the answer is that refusal
abbrev Refuses : Mode → ℕ → Asked → Refusal → Type 0
Refuses mode left (Whole e) why = type_at mode left e ≡ Err why
Refuses mode left (Many s n) why = items_from (item_at mode left) s n ≡ Err why

-- one refusal
same : {A : Type 0} {r : Result A Refusal} {x why : Refusal} → r ≡ Err x → r ≡ Err why → x ≡ why
same h k = cc (sym h ∙ k)

never : {A B : Type 0} {r : Result A Refusal} {x : A} {why : Refusal} → r ≡ Ok x → r ≡ Err why → B
never h k = let z : Ok _ ≡ Err _ = sym h ∙ k in cc

-- an answer that is given on is refused where it is
given_on : {A B : Type 0} (r : Result A Refusal) (g : A → B) (why : Refusal) → and_then r (λ a. Ok (g a)) ≡ Err why → r ≡ Err why
given_on (Ok a) g why h = cc
given_on (Err x) g why h = cc

module _ (mode : Mode) where
  first_refuses : (left : ℕ) (s : Bor (List ℕ)) (n : ℕ) (why : Refusal) → item_at mode left s ≡ Err why → items_from (item_at mode left) s (suc n) ≡ Err why
  unfolding items_from
  first_refuses left s n why h = simp h

  later_refuses : (left : ℕ) (s : Bor (List ℕ)) (n : ℕ) (why : Refusal) (p : _) → item_at mode left s ≡ Ok p → items_from (item_at mode left) p.1 n ≡ Err why → items_from (item_at mode left) s (suc n) ≡ Err why
  unfolding items_from
  later_refuses left s n why p h k = simp (h, k)

  later_reads : (left : ℕ) (s : Bor (List ℕ)) (n : ℕ) (more : items.SubItemsRead) (p : AdsDataTypeInfo × Bor (List ℕ)) → item_at mode left s ≡ Ok p → items_from (item_at mode left) p.1 n ≡ Ok more
      → items_from (item_at mode left) s (suc n) ≡ Ok (record { rest = more.rest; members = 1 + p.0.member_count + more.members })
  unfolding items_from
  later_reads left s n more p h k = simp (h, k)

  few_taken : (s : Bor (List ℕ)) → length s.now < 4 → taken s ≡ Err (TooShort 4 (length s.now))
  unfolding taken
  few_taken s h = simp (lt-ltb (length s.now) 4 h)

  outside_taken : (s : Bor (List ℕ)) → 4 ≤ length s.now → length s.now < le4 s.now 0 → taken s ≡ Err (EntryLengthMismatch (le4 s.now 0) (length s.now))
  unfolding taken
  outside_taken s h k = simp (le-ltb (length s.now) 4 h, lt-ltb (length s.now) (le4 s.now 0) k)

  below_taken : (s : Bor (List ℕ)) → 4 ≤ length s.now → le4 s.now 0 ≤ length s.now → le4 s.now 0 < 42 → taken s ≡ Err (ClaimBelowHeader 42 (le4 s.now 0))
  unfolding taken
  below_taken s h k l = simp (le-ltb (length s.now) 4 h, le-ltb (length s.now) (le4 s.now 0) k, lt-ltb (le4 s.now 0) 42 l)

  -- the strings
  strings_outside : (e : Bor (List ℕ)) → 42 ≤ length e.now → length e.now < strings_end e.now → front_of mode e ≡ Err (EntryLengthMismatch (strings_end e.now) (length e.now))
  unfolding front_of
  strings_outside e h k = simp (le-ltb (length e.now) 42 h, lt-ltb (length e.now) (strings_end e.now) k)

  not_ended : (e : Bor (List ℕ)) (why : Refusal) → strings_end e.now ≤ length e.now → in_mode mode (ended (string_bytes e.now)) ≡ Err why → front_of mode e ≡ Err why
  unfolding front_of
  not_ended e why h k = simp (le-ltb (length e.now) 42 (omega arith), le-ltb (length e.now) (strings_end e.now) h, k)

  all_ended : (e : Bor (List ℕ)) → strings_end e.now ≤ length e.now → in_mode mode (ended (string_bytes e.now)) ≡ Ok tt → front_of mode e ≡ Ok (front e)
  unfolding front_of
  all_ended e h k = simp (le-ltb (length e.now) 42 (omega arith), le-ltb (length e.now) (strings_end e.now) h, k)

  arrays_outside : (e : Bor (List ℕ)) (f : Front) → front_of mode e ≡ Ok f → length e.now < arrays_end e.now → arrays_of f ≡ Err (EntryLengthMismatch (arrays_end e.now) (length e.now))
  unfolding arrays_of
  arrays_outside e f h k =
      let d = heads mode e f h in
      let l : f.length ≡ length e.now = (fits mode e f h).long in
      let r : length f.rest.now ≡ length e.now - strings_end e.now = ap (λ (x : Bor (List ℕ)). length x.now) d.rest ∙ length-drop (strings_end e.now) e.now in
      let x = d.room in
      let c = d.arrays in
      let n : f.length - length f.rest.now + 8 * f.array_count ≡ arrays_end e.now = omega arith in
      simp (lt-ltb (length f.rest.now) (8 * f.array_count) (omega arith)) (ap₂ (λ (x y : ℕ). Err (EntryLengthMismatch x y)) n l)

  -- what stands behind the strings of an entry, whose array records are there
  module _ (e : Bor (List ℕ)) (h : HasStrings mode e) (room : arrays_end e.now ≤ length e.now) where
    abbrev f : Front
    f = front e

    abbrev after_arrays : Bor (List ℕ)
    after_arrays = after f.rest (8 * f.array_count)

    same_place : after_arrays ≡ after e (arrays_end e.now)
    unfolding with_strings
    same_place = after_after e (strings_end e.now) (8 * le2 e.now 38)

    same_count : f.sub_item_count ≡ le2 e.now 40
    unfolding with_strings
    same_count = refl

    arrays_are : arrays_of f ≡ Ok (record { bytes = part f.rest 0 (8 * f.array_count); count = f.array_count }, after_arrays)
    unfolding with_strings
    arrays_are = let l : length f.rest.now ≡ length e.now - strings_end e.now = length-drop (strings_end e.now) e.now in arrays_there f (omega arith)

    module _ (left : ℕ) where
      items_are : (r : Result items.SubItemsRead Refusal) → items_from (item_at mode left) (after e (arrays_end e.now)) (le2 e.now 40) ≡ r → items_from (item_at mode left) after_arrays f.sub_item_count ≡ r
      items_are r i = ap₂ (items_from (item_at mode left)) same_place same_count ∙ i

      -- the field reader goes on where the sub-items end
      field_is : (i : items.SubItemsRead) → items_from (item_at mode left) after_arrays f.sub_item_count ≡ Ok i → field_of mode e ≡ and_then (tail_of mode f i.rest) (λ t. Ok (field.joined f t))
      unfolding field_of
      field_is i k =
          let s : behind_items f ≡ i.rest = ap (λ (x : Bor (List ℕ)). after_items x f.sub_item_count) (arrays_skipped f _ arrays_are) ∙ skipped mode left f.sub_item_count after_arrays i k in
          simp (front_there mode e h, s)

      tail_as_field : (i : items.SubItemsRead) (why : Refusal) → items_from (item_at mode left) after_arrays f.sub_item_count ≡ Ok i → field_of mode e ≡ Err why → tail_of mode f i.rest ≡ Err why
      tail_as_field i why k x = given_on (tail_of mode f i.rest) (field.joined f) why (sym (field_is i k) ∙ x)

      field_as_tail : (i : items.SubItemsRead) (why : Refusal) → items_from (item_at mode left) after_arrays f.sub_item_count ≡ Ok i → tail_of mode f i.rest ≡ Err why → field_of mode e ≡ Err why
      field_as_tail i why k x = field_is i k ∙ ap (λ (r : Result Tail Refusal). and_then r (λ t. Ok (field.joined f t))) x

  refuses : {depth : ℕ} {w : Asked} {why : Refusal} → IsRefused mode depth w why → (left : ℕ) → depth + left ≡ 16 → Refuses mode left w why
  refuses (strings {e = e} h k) left d = front_refused mode left e _ (strings_outside e h k)
  refuses (ends {e = e} b c h n) left d =
      front_refused mode left e _ (not_ended e _ h (ap (λ (m : Mode). in_mode m (ended (string_bytes e.now))) c ∙ ap ended n.among ∙ first_refused n.before n.behind b n.zero n.not))
  refuses (arrays {e = e} h k) left d = let f = front_there mode e h in arrays_refused mode left e (front e) f _ (arrays_outside e (front e) f k)
  refuses (items {e = e} {why = why} h k r) left d =
      items_refused mode left e (front e) (front_there mode e h) _ (arrays_are e h k) why (items_are e h k left (Err why) (refuses r left d))
  refuses (sections {e = e} {why = why} p end rest ms q h k s x) left d =
      let i = reads mode s left (omega (arith, q)) in
      let j = items_are e h k left _ i.read in
      tail_refused mode left e (front e) (front_there mode e h) _ (arrays_are e h k) _ j why (tail_as_field e h k left _ why j x)
  refuses (deep {s = s} {left = m}) left d = first_refuses left s m TooDeep (item_deep mode s left (omega arith))
  refuses (few {s = s} {left = m} a h) left d = first_refuses left s m _ (item_untaken mode s left _ (λ z. omega (arith, z)) (few_taken s h))
  refuses (outside {s = s} {left = m} a h k) left d = first_refuses left s m _ (item_untaken mode s left _ (λ z. omega (arith, z)) (outside_taken s h k))
  refuses (below {s = s} {left = m} a h k l) left d = first_refuses left s m _ (item_untaken mode s left _ (λ z. omega (arith, z)) (below_taken s h k l))
  refuses (first {s = s} {left = m} {why = why} a c r) left d =
      first_refuses left s m why (item_unread mode s left _ _ why (λ z. omega (arith, z)) (taken_there s c.least c.room) (refuses r (left - 1) (omega arith)))
  refuses (later {s = s} {left = m} {why = why} p end info held a q c x r) left d =
      let i = reads mode x (left - 1) (omega (arith, q)) in
      later_refuses left s m why (info, after s (le4 s.now 0)) (item_read mode s left _ _ info (λ z. omega (arith, z)) (taken_there s c.least c.room) i.read) (refuses r left d)

  -- the other way: what was refused was refused by one of these
  abbrev at_depth : ℕ → Position
  at_depth depth = record { path = replicate 15 0; depth = depth; offset = 0 }

  first_not : (mode' : Mode) (bytes : List (ℕ × ℕ)) (why : Refusal) → in_mode mode' (ended bytes) ≡ Err why → (b : ℕ × ℕ) × ((mode' ≡ Checked) × FirstNot bytes b × (why ≡ EndByte b.0 b.1))
  first_not Present bytes why h = cc
  first_not Checked bytes why h = let r = (ends_meant bytes).refused why h in (r.0, (refl, r.1.0, r.1.1))

  module _ (depth : ℕ) where
    -- of the header and the strings
    front_by : (e : Bor (List ℕ)) (why : Refusal) → 42 ≤ length e.now → front_of mode e ≡ Err why → (c : Bool) → ltb (length e.now) (strings_end e.now) ≡ c
        → (t : Result Unit Refusal) → in_mode mode (ended (string_bytes e.now)) ≡ t → IsRefused mode depth (Whole e) why
    front_by e why l h true c t q =
        let k = ltb-true (length e.now) (strings_end e.now) c in
        subst (IsRefused mode depth (Whole e)) (same (strings_outside e l k) h) (strings l k)
    front_by e why l h false c (Ok u) q = never (all_ended e (ltb-false (length e.now) (strings_end e.now) c) q) h
    front_by e why l h false c (Err x) q =
        let k = ltb-false (length e.now) (strings_end e.now) c in
        let n = first_not mode (string_bytes e.now) x q in
        subst (IsRefused mode depth (Whole e)) (sym n.1.2 ∙ same (not_ended e x k q) h) (ends n.0 n.1.0 k n.1.1)

    module _ (left : ℕ) (d : depth + left ≡ 16) (e : Bor (List ℕ)) (why : Refusal) (l : 42 ≤ length e.now) (h : type_at mode left e ≡ Err why)
        (many : (n : ℕ) (s : Bor (List ℕ)) (x : Refusal) → items_from (item_at mode left) s n ≡ Err x → IsRefused mode depth (Many s n) x) where
      by_tail : (w : HasStrings mode e) (room : arrays_end e.now ≤ length e.now) (i : items.SubItemsRead) → items_from (item_at mode left) (after e (arrays_end e.now)) (le2 e.now 40) ≡ Ok i
          → (t : Result Tail Refusal) → tail_of mode (front e) i.rest ≡ t → IsRefused mode depth (Whole e) why
      by_tail w room i k (Ok t) x = never (is_read mode left e (front e) (front_there mode e w) _ (arrays_are e w room) i (items_are e w room left _ k) t x) h
      by_tail w room i k (Err y) x =
          let j = items_are e w room left _ k in
          let s = items_stand mode left (at_depth depth) (length e.now) (after e (arrays_end e.now)) (le2 e.now 40) i d k in
          subst (IsRefused mode depth (Whole e)) (same (tail_refused mode left e (front e) (front_there mode e w) _ (arrays_are e w room) i j y x) h)
          (sections (at_depth depth) (length e.now) i.rest _ refl w room s.0 (field_as_tail e w room left i y j x))

      by_items : (w : HasStrings mode e) (room : arrays_end e.now ≤ length e.now) (r : Result items.SubItemsRead Refusal) → items_from (item_at mode left) (after e (arrays_end e.now)) (le2 e.now 40) ≡ r
          → IsRefused mode depth (Whole e) why
      by_items w room (Ok i) k = by_tail w room i k (tail_of mode (front e) i.rest) refl
      by_items w room (Err x) k =
          subst (IsRefused mode depth (Whole e)) (same (items_refused mode left e (front e) (front_there mode e w) _ (arrays_are e w room) x (items_are e w room left _ k)) h)
          (items w room (many (le2 e.now 40) (after e (arrays_end e.now)) x k))

      by_arrays : (w : HasStrings mode e) (b : Bool) → ltb (length e.now) (arrays_end e.now) ≡ b → IsRefused mode depth (Whole e) why
      by_arrays w true b =
          let k = ltb-true (length e.now) (arrays_end e.now) b in
          let f = front_there mode e w in
          subst (IsRefused mode depth (Whole e)) (same (arrays_refused mode left e (front e) f _ (arrays_outside e (front e) f k)) h) (arrays w k)
      by_arrays w false b = by_items w (ltb-false (length e.now) (arrays_end e.now) b) (items_from (item_at mode left) (after e (arrays_end e.now)) (le2 e.now 40)) refl

      whole_by : (r : Result Front Refusal) → front_of mode e ≡ r → IsRefused mode depth (Whole e) why
      whole_by (Ok f) q = by_arrays (front_was mode e f q).0 (ltb (length e.now) (arrays_end e.now)) refl
      whole_by (Err x) q =
          front_by e why l (q ∙ ap Err (same (front_refused mode left e x q) h)) (ltb (length e.now) (strings_end e.now)) refl (in_mode mode (ended (string_bytes e.now))) refl

    -- of sub-items
    module _ (n : ℕ) (d : depth < 16) (s : Bor (List ℕ)) (why : Refusal) (h : taken s ≡ Err why) where
      claim_by : 4 ≤ length s.now → (b c : Bool) → ltb (length s.now) (le4 s.now 0) ≡ b → ltb (le4 s.now 0) 42 ≡ c → IsRefused mode depth (Many s (suc n)) why
      claim_by l true c b x = let k = ltb-true (length s.now) (le4 s.now 0) b in subst (IsRefused mode depth (Many s (suc n))) (same (outside_taken s l k) h) (outside d l k)
      claim_by l false true b x =
          let k = ltb-false (length s.now) (le4 s.now 0) b in
          let y = ltb-true (le4 s.now 0) 42 x in
          subst (IsRefused mode depth (Many s (suc n))) (same (below_taken s l k y) h) (below d l k y)
      claim_by l false false b x = never (taken_there s (ltb-false (le4 s.now 0) 42 x) (ltb-false (length s.now) (le4 s.now 0) b)) h

      taken_by : (a : Bool) → ltb (length s.now) 4 ≡ a → IsRefused mode depth (Many s (suc n)) why
      taken_by true a = let k = ltb-true (length s.now) 4 a in subst (IsRefused mode depth (Many s (suc n))) (same (few_taken s k) h) (few d k)
      taken_by false a = claim_by (ltb-false (length s.now) 4 a) (ltb (length s.now) (le4 s.now 0)) (ltb (le4 s.now 0) 42) refl refl

    none_deep : depth ≡ 16 → (n : ℕ) (s : Bor (List ℕ)) (why : Refusal) → items_from (item_at mode 0) s n ≡ Err why → IsRefused mode depth (Many s n) why
    unfolding items_from
    none_deep d zero s why h = cc
    none_deep d (suc n) s why h =
        subst (λ (k : ℕ). IsRefused mode k (Many s (suc n)) why) (sym d) (subst (IsRefused mode 16 (Many s (suc n))) (same (first_refuses 0 s n TooDeep (item_deep mode s 0 refl)) h) deep)

    module _ (left : ℕ) (d : depth + suc left ≡ 16) (inner : (e : Bor (List ℕ)) (why : Refusal) → 42 ≤ length e.now → type_at mode left e ≡ Err why → IsRefused mode (depth + 1) (Whole e) why) where
      one_less : suc left - 1 ≡ left
      one_less = omega arith

      module _ (n : ℕ) (s : Bor (List ℕ)) (why : Refusal) (h : items_from (item_at mode (suc left)) s (suc n) ≡ Err why)
          (rest : (s : Bor (List ℕ)) (x : Refusal) → items_from (item_at mode (suc left)) s n ≡ Err x → IsRefused mode depth (Many s n) x) where
        by_later : (own behind : Bor (List ℕ)) (info : AdsDataTypeInfo) → taken s ≡ Ok (own, behind) → type_at mode left own ≡ Ok info
            → (r : Result items.SubItemsRead Refusal) → items_from (item_at mode (suc left)) behind n ≡ r → IsRefused mode depth (Many s (suc n)) why
        by_later own behind info t k (Ok more) v =
            let i = item_read mode s (suc left) own behind info (λ z. omega (arith, z)) t (ap (λ (m : ℕ). type_at mode m own) one_less ∙ k) in
            never (later_reads (suc left) s n more (info, behind) i v) h
        by_later own behind info t k (Err x) v =
            let i = item_read mode s (suc left) own behind info (λ z. omega (arith, z)) t (ap (λ (m : ℕ). type_at mode m own) one_less ∙ k) in
            let w = took s own behind t in
            let c : Claims s = record { least = w.least; room = w.room } in
            let e = entry_stand mode left (at_depth (depth + 1)) 0 (part s 0 (le4 s.now 0)) info (omega arith) (ap (type_at mode left) (sym w.own_is) ∙ k) in
            let r = rest (after s (le4 s.now 0)) x (ap (λ (b : Bor (List ℕ)). items_from (item_at mode (suc left)) b n) (sym w.behind_is) ∙ v) in
            subst (IsRefused mode depth (Many s (suc n))) (same (later_refuses (suc left) s n x (info, behind) i v) h) (later (at_depth (depth + 1)) 0 info _ (omega arith) refl c e r)

        by_entry : (own behind : Bor (List ℕ)) → taken s ≡ Ok (own, behind) → (r : Result AdsDataTypeInfo Refusal) → type_at mode left own ≡ r → IsRefused mode depth (Many s (suc n)) why
        by_entry own behind t (Ok info) k = by_later own behind info t k (items_from (item_at mode (suc left)) behind n) refl
        by_entry own behind t (Err x) k =
            let w = took s own behind t in
            let y = same (first_refuses (suc left) s n x (item_unread mode s (suc left) own behind x (λ z. omega (arith, z)) t (ap (λ (m : ℕ). type_at mode m own) one_less ∙ k))) h in
            let long : 42 ≤ length (part s 0 (le4 s.now 0)).now = omega (arith, length_part s 0 (le4 s.now 0) (omega (arith, w.room)), w.least) in
            subst (IsRefused mode depth (Many s (suc n))) y
            (first (omega arith) (record { least = w.least; room = w.room }) (inner (part s 0 (le4 s.now 0)) x long (ap (type_at mode left) (sym w.own_is) ∙ k)))

        by_taken : (r : Result (Bor (List ℕ) × Bor (List ℕ)) Refusal) → taken s ≡ r → IsRefused mode depth (Many s (suc n)) why
        by_taken (Ok p) t = by_entry p.0 p.1 t (type_at mode left p.0) refl
        by_taken (Err x) t =
            let y = same (first_refuses (suc left) s n x (item_untaken mode s (suc left) x (λ z. omega (arith, z)) t)) h in
            subst (IsRefused mode depth (Many s (suc n))) y (taken_by n (omega arith) s x t (ltb (length s.now) 4) refl)

      many_by : (n : ℕ) (s : Bor (List ℕ)) (why : Refusal) → items_from (item_at mode (suc left)) s n ≡ Err why → IsRefused mode depth (Many s n) why
      unfolding items_from
      many_by zero s why h = cc
      many_by (suc n) s why h = by_taken n s why h (λ q x k. many_by n q x k) (taken s) refl

  was_refused : (left depth : ℕ) → depth + left ≡ 16 → (e : Bor (List ℕ)) (why : Refusal) → 42 ≤ length e.now → type_at mode left e ≡ Err why → IsRefused mode depth (Whole e) why
  was_refused zero depth d e why l h = whole_by depth zero d e why l h (none_deep depth (omega arith)) (front_of mode e) refl
  was_refused (suc left) depth d e why l h =
      whole_by depth (suc left) d e why l h (many_by depth left d (was_refused left (depth + 1) (omega arith))) (front_of mode e) refl

root_refuses : (mode : Mode) (s : Bor (List ℕ)) (why : Refusal) → IsRootRefused mode s why → parse_of 42 (type_of mode) s ≡ Err why
unfolding claim_of
root_refuses mode s why (refused.large h) = simp (lt-ltb limit (length s.now) h)
root_refuses mode s why (refused.short h) = simp (le-ltb limit (length s.now) (omega arith), lt-ltb (length s.now) 42 h)
root_refuses mode s why (refused.outside small h k) = simp (le-ltb limit (length s.now) small, le-ltb (length s.now) 42 h, lt-ltb (length s.now) (le4 s.now 0) k)
root_refuses mode s why (refused.below small h k l) =
    simp (le-ltb limit (length s.now) small, le-ltb (length s.now) 42 h, le-ltb (length s.now) (le4 s.now 0) k, lt-ltb (le4 s.now 0) 42 l)
root_refuses mode s why (refused.entry small c r) =
    simp (le-ltb limit (length s.now) small, le-ltb (length s.now) 42 (omega (arith, c.least, c.room)), le-ltb (length s.now) (le4 s.now 0) c.room, le-ltb (le4 s.now 0) 42 c.least) (refuses mode r 15 refl)

module _ (mode : Mode) (s : Bor (List ℕ)) (why : Refusal) (h : parse_of 42 (type_of mode) s ≡ Err why) where
  by_this : (x : Refusal) → IsRootRefused mode s x → IsRootRefused mode s why
  by_this x r = subst (IsRootRefused mode s) (same (root_refuses mode s x r) h) r

  root_by : (a b c d : Bool) → ltb limit (length s.now) ≡ a → ltb (length s.now) 42 ≡ b → ltb (length s.now) (le4 s.now 0) ≡ c → ltb (le4 s.now 0) 42 ≡ d → IsRootRefused mode s why
  unfolding claim_of
  root_by true b c d x y z w = by_this _ (refused.large (ltb-true limit (length s.now) x))
  root_by false true c d x y z w = by_this _ (refused.short (ltb-true (length s.now) 42 y))
  root_by false false true d x y z w =
      by_this _ (refused.outside (ltb-false limit (length s.now) x) (ltb-false (length s.now) 42 y) (ltb-true (length s.now) (le4 s.now 0) z))
  root_by false false false true x y z w =
      by_this _ (refused.below (ltb-false limit (length s.now) x) (ltb-false (length s.now) 42 y) (ltb-false (length s.now) (le4 s.now 0) z) (ltb-true (le4 s.now 0) 42 w))
  root_by false false false false x y z w =
      let room = ltb-false (length s.now) (le4 s.now 0) z in
      let least = ltb-false (le4 s.now 0) 42 w in
      let long : 42 ≤ length (part s 0 (le4 s.now 0)).now = omega (arith, length_part s 0 (le4 s.now 0) (omega (arith, room)), least) in
      let e : parse_of 42 (type_of mode) s ≡ type_of mode (part s 0 (le4 s.now 0)) = simp (x, y, z, w) in
      refused.entry (ltb-false limit (length s.now) x) (record { least = least; room = room }) (was_refused mode 15 1 refl (part s 0 (le4 s.now 0)) why long (sym e ∙ h))

pub types_refused : TypesRefused
types_refused =
    record {
      refuses = λ mode s why r. let h = root_refuses mode s why r in (h, ap (map_ok (λ (r : AdsDataTypeInfo). slots_of (members_of r))) h);
      refused = λ mode s why h. root_by mode s why h (ltb limit (length s.now)) (ltb (length s.now) 42) (ltb (length s.now) (le4 s.now 0)) (ltb (le4 s.now 0) 42) refl refl refl refl;
    }

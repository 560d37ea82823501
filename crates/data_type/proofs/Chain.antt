-- Entries one inside another: proved.
use Rattle.std.proofs.Common.{ℕ, zero, suc, ◌+◌, ◌*◌, ◌<◌, ◌≤◌, ◌≡◌, refl, ap, ◌∙◌, List, [], length, drop, get_or, arith, Bor}
use Rattle.std.specs.Prelude.{None, Ok, Err}
use Rattle.std.proofs.lemmas.List.{take_all}
use borrow.Author.Tests.{le-ltb}
use Rattle.le.specs.Le.{le2, le4}
use Rattle.le.proofs.Laws.{le4_bytes4}
use Rattle.part.specs.Slice.{part, after}
use Rattle.refusal.specs.EndBytes.{ended}
use Rattle.refusal.specs.Refusal.{limit}
use Rattle.refusal.specs.declared.Mode.{Mode}
use Rattle.refusal.specs.declared.Mode.TheVariants.{Present, Checked}
use Rattle.refusal.specs.declared.Refusal.{Refusal}
use Rattle.refusal.specs.declared.Refusal.TheVariants.{TooDeep}
use Rattle.attribute.specs.Attribute.{ends}
use Rattle.entry.specs.Entry.{claim_of}
use Rattle.walk.specs.Step.{parse_of}
use Rattle.field.specs.declared.front.Front.{Front}
use Rattle.field.specs.declared.tail.Tail.{Tail}
use Rattle.field.specs.Front.{with_strings, front_of}
use Rattle.layout.specs.Layout.{guid_of}
use Rattle.field.specs.Tail.{after_mask, after_methods, attributes_of, tail_of}
use Rattle.data_type.specs.declared.AdsDataTypeInfo.{AdsDataTypeInfo}
use Rattle.data_type.specs.declared.reader.SubItemsRead.{SubItemsRead}
use Rattle.field.specs.Field.{joined}
use Rattle.data_type.specs.DataType.{sub_items_of, ItemReader, taken, items_from, item_at, arrays_of, type_with, type_at, type_of}
use Rattle.data_type.specs.Chain.{around, chain, HasMembers, TypesNest}
use Rattle.data_type.proofs.Turns.{type_step}

-- such an entry, with its length and its count
record Around (e : Bor (List ℕ)) (count : ℕ) (items : List ℕ) : Type 0 where
  is : e.now ≡ around count items
  counts : le2 e.now 40 ≡ count
  small : 45 + length items < 4294967296

module _ (e : Bor (List ℕ)) (count : ℕ) (items : List ℕ) (a : Around e count items) where
  abbrev f : Front
  f = with_strings e 0 0 0

  long : length e.now ≡ 45 + length items
  long = ap length a.is ∙ omega arith

  strings : (le2 e.now 32 ≡ 0) × (le2 e.now 34 ≡ 0) × (le2 e.now 36 ≡ 0)
  unfolding le2
  strings = (ap (λ (xs : List ℕ). le2 xs 32) a.is, ap (λ (xs : List ℕ). le2 xs 34) a.is, ap (λ (xs : List ℕ). le2 xs 36) a.is)

  no_arrays : le2 e.now 38 ≡ 0
  unfolding le2
  no_arrays = ap (λ (xs : List ℕ). le2 xs 38) a.is

  no_flags : le4 e.now 28 ≡ 0
  unfolding le4
  no_flags = ap (λ (xs : List ℕ). le4 xs 28) a.is

  end_bytes : (get_or e.now 42 0 ≡ 0) × (get_or e.now 43 0 ≡ 0) × (get_or e.now 44 0 ≡ 0)
  end_bytes = (ap (λ (xs : List ℕ). get_or xs 42 0) a.is, ap (λ (xs : List ℕ). get_or xs 43 0) a.is, ap (λ (xs : List ℕ). get_or xs 44 0) a.is)

  front_is : (mode : Mode) → front_of mode e ≡ Ok f
  unfolding front_of ended
  front_is Present = simp (strings.0, strings.1, strings.2, long, le-ltb (45 + length items) 42 (omega arith), le-ltb (45 + length items) 45 (omega arith))
  front_is Checked = simp (strings.0, strings.1, strings.2, long, le-ltb (45 + length items) 42 (omega arith), le-ltb (45 + length items) 45 (omega arith), end_bytes.0, end_bytes.1, end_bytes.2)

  abbrev first : Bor (List ℕ)
  first = after f.rest 0

  first_is : first.now ≡ items
  unfolding with_strings
  first_is = ap (λ (xs : List ℕ). drop 0 (drop 45 xs)) a.is

  arrays_are : arrays_of f ≡ Ok (record { bytes = part f.rest 0 0; count = 0 }, first)
  unfolding arrays_of with_strings
  arrays_are = simp (no_arrays, le-ltb (length (drop 45 e.now)) 0 (omega arith))

  abbrev none_at : Bor (List ℕ) → Tail
  none_at s = record { guid = None; attributes = record { bytes = s; count = 0 } }

  tail_is : (mode : Mode) (s : Bor (List ℕ)) → tail_of mode f s ≡ Ok (none_at s)
  unfolding tail_of with_strings guid_of after_mask after_methods attributes_of ended ends
  tail_is Present s = simp no_flags
  tail_is Checked s = simp no_flags

  abbrev record_of : ℕ → Bor (List ℕ) → AdsDataTypeInfo
  record_of members rest = record { field = joined f (none_at rest); arrays = record { bytes = part f.rest 0 0; count = 0 }; sub_items = sub_items_of f first; member_count = members }

  counted : f.sub_item_count ≡ count
  unfolding with_strings
  counted = a.counts

  with_items : (mode : Mode) (item : ItemReader) (items : SubItemsRead) → items_from item first count ≡ Ok items → type_with mode item e ≡ Ok (record_of items.members items.rest)
  unfolding type_with
  with_items mode item items h =
      let c : f.sub_item_count ≡ count = counted in
      simp (front_is mode, arrays_are, c, h, tail_is mode items.rest)

  without : (mode : Mode) (item : ItemReader) (why : Refusal) → items_from item first count ≡ Err why → type_with mode item e ≡ Err why
  unfolding type_with
  without mode item why h =
      let c : f.sub_item_count ≡ count = counted in
      simp (front_is mode, arrays_are, c, h)

  claims : le4 e.now 0 ≡ 45 + length items
  claims = ap (λ (xs : List ℕ). le4 xs 0) a.is ∙ le4_bytes4 (45 + length items) _ a.small

  taken_is : taken e ≡ Ok (part e 0 (45 + length items), after e (45 + length items))
  unfolding taken
  taken_is = simp (claims, long, le-ltb (45 + length items) 4 (omega arith), le-ltb (45 + length items) (45 + length items) (omega arith), le-ltb (45 + length items) 42 (omega arith))

  whole : (part e 0 (45 + length items)).now ≡ e.now
  whole = take_all (45 + length items) e.now (omega (arith, long))

-- a chain of so many below its first, read where there may be so many levels below it
data Answer (mode : Mode) (left n : ℕ) (e : Bor (List ℕ)) : Type 0 where
  reads : (info : AdsDataTypeInfo) → n ≤ left → type_at mode left e ≡ Ok info → info.member_count ≡ n → Answer mode left n e
  deep : left < n → type_at mode left e ≡ Err TooDeep → Answer mode left n e

abbrev count_of : ℕ → ℕ
count_of zero = 0
count_of (suc n) = 1

abbrev inner_of : ℕ → List ℕ
inner_of zero = []
inner_of (suc n) = chain n

length_chain : (n : ℕ) → length (chain n) ≡ 45 + 45 * n
unfolding chain
length_chain zero = refl
length_chain (suc n) = let l = length_chain n in omega arith

around_of : (n : ℕ) (e : Bor (List ℕ)) → e.now ≡ chain n → length e.now ≤ limit → Around e (count_of n) (inner_of n)
unfolding chain le2
around_of zero e h l = record { is = h; counts = ap (λ (xs : List ℕ). le2 xs 40) h; small = omega arith }
around_of (suc n) e h l = let k : length e.now ≡ 45 + length (chain n) = ap length h ∙ omega arith in record { is = h; counts = ap (λ (xs : List ℕ). le2 xs 40) h; small = omega (arith, k) }

module _ (mode : Mode) where
  one_read : (left : ℕ) (s own behind : Bor (List ℕ)) (info : AdsDataTypeInfo) → taken s ≡ Ok (own, behind) → type_at mode left own ≡ Ok info
      → items_from (item_at mode (suc left)) s 1 ≡ Ok (record { rest = behind; members = 1 + info.member_count + 0 })
  unfolding items_from item_at
  one_read left s own behind info t h = simp (t, h)

  one_deep : (left : ℕ) (s own behind : Bor (List ℕ)) → taken s ≡ Ok (own, behind) → type_at mode left own ≡ Err TooDeep → items_from (item_at mode (suc left)) s 1 ≡ Err TooDeep
  unfolding items_from item_at
  one_deep left s own behind t h = simp (t, h)

  none_read : (item : ItemReader) (s : Bor (List ℕ)) → items_from item s 0 ≡ Ok (record { rest = s; members = 0 })
  unfolding items_from
  none_read item s = refl

  all_deep : (s : Bor (List ℕ)) → items_from (item_at mode 0) s 1 ≡ Err TooDeep
  unfolding items_from item_at
  all_deep s = refl

  by_inner : (left n : ℕ) (e : Bor (List ℕ)) (a : Around e 1 (chain n)) (own behind : Bor (List ℕ)) → taken (first e 1 (chain n) a) ≡ Ok (own, behind) → Answer mode left n own → Answer mode (suc left) (suc n) e
  by_inner left n e a own behind t (reads info l h c) =
      reads _ (omega arith) (type_step mode (suc left) e ∙ with_items e 1 (chain n) a mode (item_at mode (suc left)) _ (one_read left (first e 1 (chain n) a) own behind info t h)) (omega (arith, c))
  by_inner left n e a own behind t (deep l h) =
      deep (omega arith) (type_step mode (suc left) e ∙ without e 1 (chain n) a mode (item_at mode (suc left)) TooDeep (one_deep left (first e 1 (chain n) a) own behind t h))

  answer : (n left : ℕ) (e : Bor (List ℕ)) → e.now ≡ chain n → length e.now ≤ limit → Answer mode left n e
  answer zero left e h l =
      let a = around_of zero e h l in
      reads _ (omega arith) (type_step mode left e ∙ with_items e 0 [] a mode (item_at mode left) _ (none_read (item_at mode left) (first e 0 [] a))) refl
  answer (suc n) zero e h l =
      let a = around_of (suc n) e h l in
      deep (omega arith) (type_step mode zero e ∙ without e 1 (chain n) a mode (item_at mode zero) TooDeep (all_deep (first e 1 (chain n) a)))
  answer (suc n) (suc left) e h l =
      let a = around_of (suc n) e h l in
      let i : Bor (List ℕ) = first e 1 (chain n) a in
      let is : i.now ≡ chain n = first_is e 1 (chain n) a in
      let k : length e.now ≡ 45 + length (chain n) = long e 1 (chain n) a in
      let m : length i.now ≡ length (chain n) = ap length is in
      let b = around_of n i is (omega arith) in
      by_inner left n e a _ _ (taken_is i (count_of n) (inner_of n) b) (answer n left _ (whole i (count_of n) (inner_of n) b ∙ is) (omega (arith, ap length (whole i (count_of n) (inner_of n) b))))

  -- the entry at the start of some bytes
  parse_is : (n : ℕ) (s : Bor (List ℕ)) → s.now ≡ chain n → length s.now ≤ limit → (e : Bor (List ℕ)) × ((parse_of 42 (type_of mode) s ≡ type_of mode e) × (e.now ≡ chain n))
  unfolding claim_of
  parse_is n s h l =
      let a = around_of n s h l in
      let k = long s (count_of n) (inner_of n) a in
      let c = claims s (count_of n) (inner_of n) a in (
        part s 0 (45 + length (inner_of n)),
        (
          simp (c, le-ltb limit (length s.now) l, le-ltb (length s.now) 42 (omega (arith, k)), le-ltb (length s.now) (45 + length (inner_of n)) (omega (arith, k)), le-ltb (45 + length (inner_of n)) 42 (omega arith)),
          whole s (count_of n) (inner_of n) a ∙ h,
        ),
      )

  read_by : (n : ℕ) (s e : Bor (List ℕ)) → n ≤ 15 → parse_of 42 (type_of mode) s ≡ type_of mode e → Answer mode 15 n e → HasMembers mode s n
  read_by n s e b p (reads info l h c) = record { info = info; read = p ∙ h; count = c }
  read_by n s e b p (deep l h) = absurd (omega arith)

  deep_by : (n : ℕ) (s e : Bor (List ℕ)) → 16 ≤ n → parse_of 42 (type_of mode) s ≡ type_of mode e → Answer mode 15 n e → parse_of 42 (type_of mode) s ≡ Err TooDeep
  deep_by n s e b p (reads info l h c) = absurd (omega arith)
  deep_by n s e b p (deep l h) = p ∙ h

pub types_nest : TypesNest
types_nest =
    record {
      reads = λ mode s n b h.
          let l : length s.now ≤ limit = let k = ap length h in let m = length_chain n in omega arith in
          let p = parse_is mode n s h l in
          let k = ap length p.1.1 in
          let m = length_chain n in
          read_by mode n s p.0 (omega arith) p.1.0 (answer mode n 15 p.0 p.1.1 (omega arith));
      deep = λ mode s n b l h.
          let p = parse_is mode n s h l in
          let k = ap length p.1.1 in
          let m = ap length h in
          deep_by mode n s p.0 b p.1.0 (answer mode n 15 p.0 p.1.1 (omega arith));
    }

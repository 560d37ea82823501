-- What a data type tells does not depend on where it lies in memory.
use Rattle.std.proofs.Common.{◌≡◌, ℕ, zero, suc, ◌+◌, ◌-◌, ◌*◌, ◌⊎◌, inl, inr, Bool, true, false, List, [], ◌∷◌, ◌++◌, length, map, refl, sym, ap, ap₂, ◌∙◌, Bor}
use Rattle.std.specs.Prelude.{Option, Result, Ok, Err, ltb, if◌then◌else◌}
use Rattle.std.proofs.lemmas.List.{map-append}
use Rattle.le.specs.Le.{le2, le4}
use Rattle.part.specs.Slice.{part, after}
use Rattle.part.specs.Outcome.{and_then}
use Rattle.refusal.specs.declared.Mode.{Mode}
use Rattle.refusal.specs.declared.Mode.TheVariants.{Present}
use Rattle.refusal.specs.declared.Refusal.{Refusal}
use Rattle.refusal.specs.declared.Refusal.TheVariants.{TooShort, EntryLengthMismatch, ClaimBelowHeader, TooDeep}
use Rattle.walk.specs.Mapped.{map_ok}
use Rattle.attribute.specs.declared.Attributes.{Attributes}
use Rattle.attribute.specs.Told as attributes
use Rattle.attribute.proofs.Anywhere.{moved, on, attributes_at, attributes_told}
use Rattle.field.specs.declared.tail.Tail.{Tail}
use Rattle.field.specs.declared.front.Front.{Front}
use Rattle.field.specs.Front.{with_strings, front_of}
use Rattle.field.specs.Tail.{tail_of}
use Rattle.field.specs.Field.{joined}
use Rattle.field.specs.Told as field
use Rattle.field.proofs.Anywhere.{tail_moved, front_moved}
use Rattle.data_type.specs.declared.AdsDataTypeInfo.{AdsDataTypeInfo}
use Rattle.data_type.specs.declared.array.AdsArrayInfo.{AdsArrayInfo}
use Rattle.data_type.specs.declared.SubItems.{SubItems}
use Rattle.data_type.specs.declared.array.ArrayInfos.{ArrayInfos}
use Rattle.data_type.specs.declared.members.SubItem.{SubItem}
use Rattle.data_type.specs.declared.members.Member.{Member}
use Rattle.data_type.specs.declared.members.Position.{Position}
use Rattle.data_type.specs.declared.reader.SubItemsRead.{SubItemsRead}
use Rattle.data_type.specs.Array.{listed, first_of}
use Rattle.data_type.specs.Members.{root, below, item_in, each, members_below}
use Rattle.data_type.specs.DataType.{taken, ItemReader, items_from, arrays_of, sub_items_of, type_with, too_deep, item_by, type_at, levels, type_of}
use Rattle.data_type.specs.Told.{ToldMember, told_member, Told, told_of, TypesAnywhere}

-- array records
arrays_told : (m : ℕ × ℕ) (s : Bor (List ℕ)) (n : ℕ) → listed (moved m s) n ≡ listed s n
unfolding listed
arrays_told m s zero = refl
arrays_told m s (suc n) = ap (λ more. if ltb (length s.now) 8 then [] else first_of s.now ∷ more) (arrays_told (on m 8) (after s 8) n)

abbrev arrays_in : ℕ → Bor (List ℕ) → ArrayInfos
arrays_in n s = record { bytes = part s 0 (8 * n); count = n }

-- those of a front, and the bytes behind them: the same refusal, or both moved
abbrev Arrays : ℕ × ℕ → Bor (List ℕ) → ℕ → Result (ArrayInfos × Bor (List ℕ)) Refusal → Result (ArrayInfos × Bor (List ℕ)) Refusal → Type 0
Arrays m s n a b =
    ((why : Refusal) × (a ≡ Err why) × (b ≡ Err why))
    ⊎ ((a ≡ Ok (arrays_in n (moved m s), after (moved m s) (8 * n))) × (b ≡ Ok (arrays_in n s, after s (8 * n))))

arrays_by : (m : ℕ × ℕ) (s : Bor (List ℕ)) (n : ℕ) (b : Bool) (why : Refusal)
    → Arrays m s n (if b then Err why else Ok (arrays_in n (moved m s), after (moved m s) (8 * n))) (if b then Err why else Ok (arrays_in n s, after s (8 * n)))
arrays_by m s n true why = inl (why, refl, refl)
arrays_by m s n false why = inr (refl, refl)

arrays_moved : (m : ℕ × ℕ) (e : Bor (List ℕ)) (n t k : ℕ)
    → Arrays (on m (45 + n + t + k)) (after e (45 + n + t + k)) (le2 e.now 38) (arrays_of (with_strings (moved m e) n t k)) (arrays_of (with_strings e n t k))
unfolding arrays_of with_strings
arrays_moved m e n t k = arrays_by (on m (45 + n + t + k)) (after e (45 + n + t + k)) (le2 e.now 38) (ltb (length (after e (45 + n + t + k)).now) (8 * le2 e.now 38)) _

-- the own bytes of a sub-item
abbrev Taken : ℕ × ℕ → Bor (List ℕ) → Result (Bor (List ℕ) × Bor (List ℕ)) Refusal → Result (Bor (List ℕ) × Bor (List ℕ)) Refusal → Type 0
Taken m s a b =
    ((why : Refusal) × (a ≡ Err why) × (b ≡ Err why))
    ⊎ ((a ≡ Ok (part (moved m s) 0 (le4 s.now 0), after (moved m s) (le4 s.now 0))) × (b ≡ Ok (part s 0 (le4 s.now 0), after s (le4 s.now 0))))

taken_by : (m : ℕ × ℕ) (s : Bor (List ℕ)) (b c d : Bool) (x y z : Refusal)
    → Taken m s
    (if b then Err x else if c then Err y else if d then Err z else Ok (part (moved m s) 0 (le4 s.now 0), after (moved m s) (le4 s.now 0)))
    (if b then Err x else if c then Err y else if d then Err z else Ok (part s 0 (le4 s.now 0), after s (le4 s.now 0)))
taken_by m s true c d x y z = inl (x, refl, refl)
taken_by m s false true d x y z = inl (y, refl, refl)
taken_by m s false false true x y z = inl (z, refl, refl)
taken_by m s false false false x y z = inr (refl, refl)

taken_moved : (m : ℕ × ℕ) (s : Bor (List ℕ)) → Taken m s (taken (moved m s)) (taken s)
unfolding taken
taken_moved m s = taken_by m s (ltb (length s.now) 4) (ltb (length s.now) (le4 s.now 0)) (ltb (le4 s.now 0) 42) (TooShort 4 (length s.now)) (EntryLengthMismatch (le4 s.now 0) (length s.now)) (ClaimBelowHeader 42 (le4 s.now 0))

-- a sub-item by its front and its array records
abbrev sub_items_at : ℕ × ℕ → SubItems → SubItems
sub_items_at m a = record { bytes = moved m a.bytes; count = a.count }

abbrev item_at : ℕ × ℕ → ℕ × ℕ → ℕ × ℕ → SubItem → SubItem
item_at a b c i = record { own = moved a i.own; offset = i.offset; sub_items = sub_items_at b i.sub_items; behind = moved c i.behind }

abbrev ItemsIn : Result SubItem Refusal → Result SubItem Refusal → Type 0
ItemsIn x y = ((why : Refusal) × (x ≡ Err why) × (y ≡ Err why)) ⊎ ((a : ℕ × ℕ) × (b : ℕ × ℕ) × (c : ℕ × ℕ) × (i : SubItem) × (x ≡ Ok (item_at a b c i)) × (y ≡ Ok i))

item_front : (m : ℕ × ℕ) (e : Bor (List ℕ)) (n t k : ℕ) (c : ℕ × ℕ) (behind : Bor (List ℕ))
    → ItemsIn
    (and_then (arrays_of (with_strings (moved m e) n t k)) (λ a. Ok (record { own = moved m e; offset = (with_strings (moved m e) n t k).offset; sub_items = sub_items_of (with_strings (moved m e) n t k) a.1; behind = moved c behind })))
    (and_then (arrays_of (with_strings e n t k)) (λ a. Ok (record { own = e; offset = (with_strings e n t k).offset; sub_items = sub_items_of (with_strings e n t k) a.1; behind = behind })))
unfolding with_strings
item_front m e n t k c behind = elim (arrays_moved m e n t k) [
  | inl w ↦ rw (w.1, w.2) (inl (w.0, refl, refl))
  | inr w ↦ rw (w.0, w.1) (inr (m, on (on m (45 + n + t + k)) (8 * le2 e.now 38), c, record { own = e; offset = le4 e.now 20; sub_items = record { bytes = after (after e (45 + n + t + k)) (8 * le2 e.now 38); count = le2 e.now 40 }; behind = behind }, refl, refl))
]

item_own : (m : ℕ × ℕ) (e : Bor (List ℕ)) (c : ℕ × ℕ) (behind : Bor (List ℕ))
    → ItemsIn
    (and_then (front_of Present (moved m e)) (λ f. and_then (arrays_of f) (λ a. Ok (record { own = moved m e; offset = f.offset; sub_items = sub_items_of f a.1; behind = moved c behind }))))
    (and_then (front_of Present e) (λ f. and_then (arrays_of f) (λ a. Ok (record { own = e; offset = f.offset; sub_items = sub_items_of f a.1; behind = behind }))))
item_own m e c behind = elim (front_moved Present m e) [
  | inl w ↦ rw (w.1, w.2) (inl (w.0, refl, refl))
  | inr w ↦ rw (w.0, w.1) (item_front m e (le2 e.now 32) (le2 e.now 34) (le2 e.now 36) c behind)
]

item_moved : (m : ℕ × ℕ) (s : Bor (List ℕ)) → ItemsIn (item_in (moved m s)) (item_in s)
unfolding item_in
item_moved m s = elim (taken_moved m s) [
  | inl w ↦ rw (w.1, w.2) (inl (w.0, refl, refl))
  | inr w ↦ rw (w.0, w.1) (item_own (on m 0) (part s 0 (le4 s.now 0)) (on m (le4 s.now 0)) (after s (le4 s.now 0)))
]

-- the members of an entry, by what one at a place brings
module _ (brings : ℕ → SubItem → List Member) (alike : (a b c : ℕ × ℕ) (place : ℕ) (i : SubItem) → map told_member (brings place (item_at a b c i)) ≡ map told_member (brings place i)) (end : ℕ) where
  each_by : (n place : ℕ) (a b c : ℕ × ℕ) (i : SubItem) → map told_member (each brings end (moved c i.behind) n) ≡ map told_member (each brings end i.behind n)
      → map told_member (brings place (item_at a b c i) ++ each brings end (moved c i.behind) n) ≡ map told_member (brings place i ++ each brings end i.behind n)
  each_by n place a b c i on =
      map-append told_member (brings place (item_at a b c i)) (each brings end (moved c i.behind) n)
      ∙ ap₂ (λ (x y : List ToldMember). x ++ y) (alike a b c place i) on
      ∙ sym (map-append told_member (brings place i) (each brings end i.behind n))

  each_moved : (n : ℕ) (m : ℕ × ℕ) (s : Bor (List ℕ)) → map told_member (each brings end (moved m s) n) ≡ map told_member (each brings end s n)
  unfolding each
  each_moved zero m s = refl
  each_moved (suc n) m s = elim (item_moved m s) [
    | inl w ↦ rw (w.1, w.2) refl
    | inr w ↦ rw (w.4, w.5) (each_by n (end - length s.now) w.0 w.1 w.2 w.3 (each_moved n w.2 w.3.behind))
  ]

members_told : (left : ℕ) (above : Position) (end : ℕ) (m : ℕ × ℕ) (s : Bor (List ℕ)) (count : ℕ) → map told_member (members_below left above end (moved m s) count) ≡ map told_member (members_below left above end s count)
unfolding members_below
members_told zero above end m s count = refl
members_told (suc left) above end m s count =
    each_moved
    (λ place item. let p : Position = below above place item.offset in record { position = p; own = item.own } ∷ members_below left p (place + length item.own.now) item.sub_items.bytes item.sub_items.count)
    (λ a b c place i.
    let p : Position = below above place i.offset in
    ap (λ (l : List ToldMember). record { position = p; own = i.own.now } ∷ l) (members_told left p (place + length i.own.now) b i.sub_items.bytes i.sub_items.count))
    end count m s

-- a sub-item as it is read, and so many of them
abbrev Read : Result (AdsDataTypeInfo × Bor (List ℕ)) Refusal → Result (AdsDataTypeInfo × Bor (List ℕ)) Refusal → Type 0
Read x y =
    ((why : Refusal) × (x ≡ Err why) × (y ≡ Err why))
    ⊎ ((m : ℕ × ℕ) × (q : AdsDataTypeInfo) × (r : AdsDataTypeInfo) × (s : Bor (List ℕ)) × (x ≡ Ok (q, moved m s)) × (y ≡ Ok (r, s)) × (q.member_count ≡ r.member_count))

abbrev Counted : Result SubItemsRead Refusal → Result SubItemsRead Refusal → Type 0
Counted x y = ((why : Refusal) × (x ≡ Err why) × (y ≡ Err why)) ⊎ ((m : ℕ × ℕ) × (i : SubItemsRead) × (x ≡ Ok (record { rest = moved m i.rest; members = i.members })) × (y ≡ Ok i))

module _ (item : ItemReader) (alike : (m : ℕ × ℕ) (s : Bor (List ℕ)) → Read (item (moved m s)) (item s)) where
  counted_by : (n p q : ℕ) (x y : Result SubItemsRead Refusal) → p ≡ q → Counted x y
      → Counted (and_then x (λ more. Ok (record { rest = more.rest; members = 1 + p + more.members }))) (and_then y (λ more. Ok (record { rest = more.rest; members = 1 + q + more.members })))
  counted_by n p q x y e (inl w) = rw (w.1, w.2) (inl (w.0, refl, refl))
  counted_by n p q x y e (inr w) = rw (w.2, w.3, e) (inr (w.0, record { rest = w.1.rest; members = 1 + q + w.1.members }, refl, refl))

  items_counted : (n : ℕ) (m : ℕ × ℕ) (s : Bor (List ℕ)) → Counted (items_from item (moved m s) n) (items_from item s n)
  unfolding items_from
  items_counted zero m s = inr (m, record { rest = s; members = 0 }, refl, refl)
  items_counted (suc n) m s = elim (alike m s) [
    | inl w ↦ rw (w.1, w.2) (inl (w.0, refl, refl))
    | inr w ↦ rw (w.4, w.5) (counted_by n w.1.member_count w.2.member_count _ _ w.6 (items_counted n w.0 w.3))
  ]

-- an entry
abbrev Types : Result AdsDataTypeInfo Refusal → Result AdsDataTypeInfo Refusal → Type 0
Types x y = ((why : Refusal) × (x ≡ Err why) × (y ≡ Err why)) ⊎ ((q : AdsDataTypeInfo) × (r : AdsDataTypeInfo) × (x ≡ Ok q) × (y ≡ Ok r) × (told_of q ≡ told_of r))

abbrev record_with : Front → ArrayInfos → SubItems → ℕ → Tail → AdsDataTypeInfo
record_with f arrays sub_items members t = record { field = joined f t; arrays = arrays; sub_items = sub_items; member_count = members }

module _ (mode : Mode) (m : ℕ × ℕ) (e : Bor (List ℕ)) (n t k : ℕ) where
  abbrev there : ℕ × ℕ
  there = on m (45 + n + t + k)

  abbrev rest : Bor (List ℕ)
  rest = after e (45 + n + t + k)

  abbrev tail_made : Option (List ℕ) → Attributes → Tail
  tail_made g x = record { guid = g; attributes = x }

  joined_told : (members : ℕ) (g : Option (List ℕ)) (l : ℕ × ℕ) (x : Attributes)
      → told_of (record_with (with_strings (moved m e) n t k) (arrays_in (le2 e.now 38) (moved there rest)) (sub_items_of (with_strings (moved m e) n t k) (after (moved there rest) (8 * le2 e.now 38))) members (tail_made g (attributes_at l x)))
      ≡ told_of (record_with (with_strings e n t k) (arrays_in (le2 e.now 38) rest) (sub_items_of (with_strings e n t k) (after rest (8 * le2 e.now 38))) members (tail_made g x))
  unfolding with_strings
  joined_told members g l x =
      let r : AdsDataTypeInfo = record_with (with_strings e n t k) (arrays_in (le2 e.now 38) rest) (sub_items_of (with_strings e n t k) (after rest (8 * le2 e.now 38))) members (tail_made g x) in
      ap (λ (all : List attributes.Told). record (told_of r) { field = record (field.told_of r.field) { attributes = all }; arrays = listed (part (moved there rest) 0 (8 * le2 e.now 38)) (le2 e.now 38); members = map told_member (members_below levels root (length e.now) (after (moved there rest) (8 * le2 e.now 38)) (le2 e.now 40)) }) (attributes_told l x.bytes x.count)
      ∙ ap₂ (λ (all : List AdsArrayInfo) (ms : List ToldMember). record (told_of r) { arrays = all; members = ms })
      (arrays_told (on there 0) (part rest 0 (8 * le2 e.now 38)) (le2 e.now 38))
      (members_told levels root (length e.now) (on there (8 * le2 e.now 38)) (after rest (8 * le2 e.now 38)) (le2 e.now 40))

  type_tail : (members : ℕ) (a b : Result Tail Refusal) (p : ℕ × ℕ) (s : Bor (List ℕ)) → tail_of mode (with_strings (moved m e) n t k) (moved p s) ≡ a → tail_of mode (with_strings e n t k) s ≡ b
      → Types
      (and_then (tail_of mode (with_strings (moved m e) n t k) (moved p s)) (λ x. Ok (record_with (with_strings (moved m e) n t k) (arrays_in (le2 e.now 38) (moved there rest)) (sub_items_of (with_strings (moved m e) n t k) (after (moved there rest) (8 * le2 e.now 38))) members x)))
      (and_then (tail_of mode (with_strings e n t k) s) (λ x. Ok (record_with (with_strings e n t k) (arrays_in (le2 e.now 38) rest) (sub_items_of (with_strings e n t k) (after rest (8 * le2 e.now 38))) members x)))
  type_tail members a b p s h i = elim (tail_moved mode m e n t k p s) [
    | inl w ↦ rw (w.1, w.2) (inl (w.0, refl, refl))
    | inr w ↦ rw (w.3, w.4) (inr (_, _, refl, refl, joined_told members w.0 w.1 w.2))
  ]

  module _ (item : ItemReader) (alike : (m : ℕ × ℕ) (s : Bor (List ℕ)) → Read (item (moved m s)) (item s)) where
    type_front : Types
        (and_then (arrays_of (with_strings (moved m e) n t k)) (λ a. and_then (items_from item a.1 (le2 e.now 40)) (λ items. and_then (tail_of mode (with_strings (moved m e) n t k) items.rest) (λ x. Ok (record_with (with_strings (moved m e) n t k) a.0 (sub_items_of (with_strings (moved m e) n t k) a.1) items.members x)))))
        (and_then (arrays_of (with_strings e n t k)) (λ a. and_then (items_from item a.1 (le2 e.now 40)) (λ items. and_then (tail_of mode (with_strings e n t k) items.rest) (λ x. Ok (record_with (with_strings e n t k) a.0 (sub_items_of (with_strings e n t k) a.1) items.members x)))))
    type_front = elim (arrays_moved m e n t k) [
      | inl w ↦ rw (w.1, w.2) (inl (w.0, refl, refl))
      | inr w ↦ rw (w.0, w.1) (elim (items_counted item alike (le2 e.now 40) (on there (8 * le2 e.now 38)) (after rest (8 * le2 e.now 38))) [
        | inl v ↦ rw (v.1, v.2) (inl (v.0, refl, refl))
        | inr v ↦ rw (v.2, v.3) (type_tail v.1.members _ _ v.0 v.1.rest refl refl)
      ])
    ]

module _ (mode : Mode) where
  with_moved : (item : ItemReader) (alike : (m : ℕ × ℕ) (s : Bor (List ℕ)) → Read (item (moved m s)) (item s)) (m : ℕ × ℕ) (e : Bor (List ℕ)) → Types (type_with mode item (moved m e)) (type_with mode item e)
  unfolding type_with with_strings
  with_moved item alike m e = elim (front_moved mode m e) [
    | inl w ↦ rw (w.1, w.2) (inl (w.0, refl, refl))
    | inr w ↦ rw (w.0, w.1) (type_front mode m e (le2 e.now 32) (le2 e.now 34) (le2 e.now 36) item alike)
  ]

  read_by : (entry : Bor (List ℕ) → Result AdsDataTypeInfo Refusal) → ((m : ℕ × ℕ) (e : Bor (List ℕ)) → Types (entry (moved m e)) (entry e)) → (m : ℕ × ℕ) (s : Bor (List ℕ)) → Read (item_by entry (moved m s)) (item_by entry s)
  read_by entry alike m s = elim (taken_moved m s) [
    | inl w ↦ rw (w.1, w.2) (inl (w.0, refl, refl))
    | inr w ↦ rw (w.0, w.1) (elim (alike (on m 0) (part s 0 (le4 s.now 0))) [
      | inl v ↦ rw (v.1, v.2) (inl (v.0, refl, refl))
      | inr v ↦ rw (v.2, v.3) (inr (on m (le4 s.now 0), v.0, v.1, after s (le4 s.now 0), refl, refl, ap (λ (x : Told). x.count) v.4))
    ])
  ]

  at_moved : (left : ℕ) (m : ℕ × ℕ) (e : Bor (List ℕ)) → Types (type_at mode left (moved m e)) (type_at mode left e)
  unfolding type_at
  at_moved zero m e = with_moved too_deep (λ m s. inl (TooDeep, refl, refl)) m e
  at_moved (suc left) m e = with_moved (item_by (type_at mode left)) (read_by (type_at mode left) (at_moved left)) m e

  types_told : (x y : Result AdsDataTypeInfo Refusal) → Types x y → map_ok told_of x ≡ map_ok told_of y
  types_told x y (inl w) = rw (w.1, w.2) refl
  types_told x y (inr w) = rw (w.2, w.3) (ap Ok w.4)

pub types_anywhere : TypesAnywhere
types_anywhere mode e f h =
    let is : moved f.ref_ptr e ≡ f = ap (λ (s : List ℕ). record { ref_ptr = f.ref_ptr; now = s }) h in
    sym (types_told mode (type_of mode (moved f.ref_ptr e)) (type_of mode e) (at_moved mode levels f.ref_ptr e)) ∙ ap (λ q. map_ok told_of (type_of mode q)) is

-- What a field tells does not depend on where it lies in memory.
use Rattle.std.proofs.Common.{◌≡◌, ℕ, zero, suc, ◌+◌, ◌-◌, ◌*◌, ◌⊎◌, inl, inr, Bool, true, false, List, length, min, refl, sym, ap, ◌∙◌, Bor}
use Rattle.std.specs.Prelude.{Option, Some, None, Result, Ok, Err, ltb, leb, if◌then◌else◌}
use Rattle.le.specs.Le.{le2, le4, has}
use Rattle.part.specs.Slice.{after}
use Rattle.part.specs.Outcome.{and_then}
use Rattle.refusal.specs.EndBytes.{ended, in_mode}
use Rattle.refusal.specs.declared.Mode.{Mode}
use Rattle.refusal.specs.declared.Refusal.{Refusal}
use Rattle.refusal.specs.declared.Refusal.TheVariants.{TooShort, EntryLengthMismatch}
use Rattle.walk.specs.Mapped.{map_ok}
use Rattle.attribute.specs.Attribute as attribute
use Rattle.attribute.specs.declared.Attributes.{Attributes}
use Rattle.attribute.specs.Told as attributes
use Rattle.attribute.proofs.Anywhere.{moved, on, Moved, attributes_at, count_moved, stopped_moved, attributes_end, attributes_told}
use Rattle.field.specs.declared.front.Front.{Front}
use Rattle.field.specs.declared.tail.Tail.{Tail}
use Rattle.field.specs.Skip.{ahead, after_items}
use Rattle.field.specs.Front.{strings_ended, with_strings, front_of}
use Rattle.layout.specs.Layout.{guid_of}
use Rattle.field.specs.Tail.{type_guid_flag, copy_mask_flag, method_infos_flag, attributes_flag, after_mask, after_methods, attributes_of, complete, tail_of}
use Rattle.field.specs.Field.{joined, behind_items, field_of}
use Rattle.field.specs.Told.{told_of, FieldsAnywhere}

-- what is passed over
items_by : (m : ℕ × ℕ) (s : Bor (List ℕ)) (n : ℕ) (b : Bool)
    → Moved (after_items (ahead s (le4 s.now 0)) n) (after_items (ahead (moved m s) (le4 s.now 0)) n)
    → Moved (if b then s else after_items (ahead s (le4 s.now 0)) n) (if b then moved m s else after_items (ahead (moved m s) (le4 s.now 0)) n)
items_by m s n true h = (m, refl)
items_by m s n false h = h

pub items_moved : (m : ℕ × ℕ) (s : Bor (List ℕ)) (n : ℕ) → Moved (after_items s n) (after_items (moved m s) n)
unfolding after_items
items_moved m s zero = (m, refl)
items_moved m s (suc n) = items_by m s n (ltb (length s.now) 4) (items_moved (on m (min (le4 s.now 0) (length s.now))) (ahead s (le4 s.now 0)) n)

mask_moved : (m : ℕ × ℕ) (s : Bor (List ℕ)) (size : ℕ) (b : Bool) → Moved (after_mask s size b) (after_mask (moved m s) size b)
unfolding after_mask
mask_moved m s size true = (on m (min size (length s.now)), refl)
mask_moved m s size false = (m, refl)

methods_moved : (m : ℕ × ℕ) (s : Bor (List ℕ)) (b c : Bool) → leb 2 (length s.now) ≡ c → Moved (after_methods s b) (after_methods (moved m s) b)
unfolding after_methods
methods_moved m s true true p = rw p (items_moved (on m 2) (after s 2) (le2 s.now 0))
methods_moved m s true false p = rw p (m, refl)
methods_moved m s false c p = (m, refl)

-- the sections
guid_moved : (m : ℕ × ℕ) (s : Bor (List ℕ)) (b c : Bool) → leb 16 (length s.now) ≡ c → (t : ℕ × ℕ) × (guid_of (moved m s) b ≡ ((guid_of s b).0, moved t (guid_of s b).1))
unfolding guid_of
guid_moved m s true true p = (on m 16, rw p refl)
guid_moved m s true false p = (m, rw p refl)
guid_moved m s false c p = (m, refl)

attributes_moved : (m : ℕ × ℕ) (s : Bor (List ℕ)) (b c : Bool) → leb 2 (length s.now) ≡ c → (l : ℕ × ℕ) × (attributes_of (moved m s) b ≡ (attributes_at l (attributes_of s b).0, (attributes_of s b).1))
unfolding attributes_of
attributes_moved m s true true p = (on m 2, rw (p, count_moved (on m 2) (after s 2) (le2 s.now 0), stopped_moved (on m 2) (after s 2) (le2 s.now 0)) refl)
attributes_moved m s true false p = (m, rw p refl)
attributes_moved m s false c p = (m, refl)

-- a tail: the same refusal, or the same GUID and attributes that were moved
abbrev pub Tails : Result Tail Refusal → Result Tail Refusal → Type 0
Tails a b =
    ((why : Refusal) × (a ≡ Err why) × (b ≡ Err why))
    ⊎ ((g : Option (List ℕ)) × (l : ℕ × ℕ) × (x : Attributes) × (a ≡ Ok (record { guid = g; attributes = attributes_at l x })) × (b ≡ Ok (record { guid = g; attributes = x })))

tails_by : (g : Option (List ℕ)) (l : ℕ × ℕ) (x : Attributes) (stop : Option Refusal) (test : Result Unit Refusal)
    → Tails (and_then test (λ _. and_then (complete stop) (λ _. Ok (record { guid = g; attributes = attributes_at l x })))) (and_then test (λ _. and_then (complete stop) (λ _. Ok (record { guid = g; attributes = x }))))
tails_by g l x stop (Err why) = inl (why, refl, refl)
tails_by g l x None (Ok u) = inr (g, l, x, refl, refl)
tails_by g l x (Some why) (Ok u) = inl (why, refl, refl)

pub tail_moved : (mode : Mode) (p : ℕ × ℕ) (e : Bor (List ℕ)) (n t k : ℕ) (m : ℕ × ℕ) (s : Bor (List ℕ)) → Tails (tail_of mode (with_strings (moved p e) n t k) (moved m s)) (tail_of mode (with_strings e n t k) s)
unfolding tail_of with_strings
tail_moved mode p e n t k m s =
    let w : ℕ = le4 e.now 28 in
    let g = guid_moved m s (has w type_guid_flag) _ refl in
    let gs : Bor (List ℕ) = (guid_of s (has w type_guid_flag)).1 in
    let c = mask_moved g.0 gs (le4 e.now 16) (has w copy_mask_flag) in
    let cs : Bor (List ℕ) = after_mask gs (le4 e.now 16) (has w copy_mask_flag) in
    let d = methods_moved c.0 cs (has w method_infos_flag) _ refl in
    let ds : Bor (List ℕ) = after_methods cs (has w method_infos_flag) in
    let a = attributes_moved d.0 ds (has w attributes_flag) _ refl in
    let x : Attributes × Option Refusal = attributes_of ds (has w attributes_flag) in
    rw (g.1, c.1, d.1, a.1, attributes_end a.0 x.0.bytes) (
    tails_by (guid_of s (has w type_guid_flag)).0 a.0 x.0 x.1 (in_mode mode (ended (attribute.ends x.0.bytes (length e.now - length x.0.bytes.now) x.0.count))))

-- a front
abbrev pub Fronts : ℕ × ℕ → Bor (List ℕ) → ℕ → ℕ → ℕ → Result Front Refusal → Result Front Refusal → Type 0
Fronts m e n t k a b = ((why : Refusal) × (a ≡ Err why) × (b ≡ Err why)) ⊎ ((a ≡ Ok (with_strings (moved m e) n t k)) × (b ≡ Ok (with_strings e n t k)))

fronts_by : (m : ℕ × ℕ) (e : Bor (List ℕ)) (n t k : ℕ) (b c : Bool) (x y : Refusal) (test : Result Unit Refusal)
    → Fronts m e n t k (if b then Err x else if c then Err y else and_then test (λ _. Ok (with_strings (moved m e) n t k))) (if b then Err x else if c then Err y else and_then test (λ _. Ok (with_strings e n t k)))
fronts_by m e n t k true c x y test = inl (x, refl, refl)
fronts_by m e n t k false true x y test = inl (y, refl, refl)
fronts_by m e n t k false false x y (Err why) = inl (why, refl, refl)
fronts_by m e n t k false false x y (Ok u) = inr (refl, refl)

pub front_moved : (mode : Mode) (m : ℕ × ℕ) (e : Bor (List ℕ)) → Fronts m e (le2 e.now 32) (le2 e.now 34) (le2 e.now 36) (front_of mode (moved m e)) (front_of mode e)
unfolding front_of
front_moved mode m e =
    let n : ℕ = le2 e.now 32 in
    let t : ℕ = le2 e.now 34 in
    let k : ℕ = le2 e.now 36 in
    fronts_by m e n t k (ltb (length e.now) 42) (ltb (length e.now) (45 + n + t + k)) (TooShort 42 (length e.now)) (EntryLengthMismatch (45 + n + t + k) (length e.now)) (strings_ended mode e.now n t k)

-- a field
field_by : (mode : Mode) (m : ℕ × ℕ) (e : Bor (List ℕ)) (n t k : ℕ)
    → map_ok told_of (and_then (tail_of mode (with_strings (moved m e) n t k) (behind_items (with_strings (moved m e) n t k))) (λ tail. Ok (joined (with_strings (moved m e) n t k) tail)))
    ≡ map_ok told_of (and_then (tail_of mode (with_strings e n t k) (behind_items (with_strings e n t k))) (λ tail. Ok (joined (with_strings e n t k) tail)))
unfolding with_strings
field_by mode m e n t k =
    let f : Front = with_strings e n t k in
    let i = items_moved (on (on m (45 + n + t + k)) (min (8 * f.array_count) (length f.rest.now))) (ahead f.rest (8 * f.array_count)) f.sub_item_count in
    rw i.1 (elim (tail_moved mode m e n t k i.0 (behind_items f)) [
      | inl w ↦ rw (w.1, w.2) refl
      | inr w ↦ rw (w.3, w.4) (ap (λ (all : List attributes.Told). Ok (record (told_of (joined f (record { guid = w.0; attributes = w.2 }))) { attributes = all })) (attributes_told w.1 w.2.bytes w.2.count))
    ])

told_moved : (mode : Mode) (m : ℕ × ℕ) (e : Bor (List ℕ)) → map_ok told_of (field_of mode (moved m e)) ≡ map_ok told_of (field_of mode e)
unfolding field_of
told_moved mode m e = elim (front_moved mode m e) [
  | inl w ↦ rw (w.1, w.2) refl
  | inr w ↦ rw (w.0, w.1) (field_by mode m e (le2 e.now 32) (le2 e.now 34) (le2 e.now 36))
]

pub fields_anywhere : FieldsAnywhere
fields_anywhere mode e f h =
    let is : moved f.ref_ptr e ≡ f = ap (λ (s : List ℕ). record { ref_ptr = f.ref_ptr; now = s }) h in
    sym (told_moved mode f.ref_ptr e) ∙ ap (λ q. map_ok told_of (field_of mode q)) is

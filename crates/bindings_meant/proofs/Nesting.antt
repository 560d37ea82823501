-- Where every entry lies within its parent, an address lies within its symbol: proved, step by step along the path.
use Rattle.std.proofs.Common.{ℕ, zero, suc, ◌+◌, ◌-◌, ◌*◌, ◌/◌, ◌%◌, min, ◌<◌, ◌≤◌, ◌≡◌, refl, sym, ap, ap₂, subst, ◌∙◌, Bool, true, false, List, [], ◌∷◌, ◌++◌, length, length-drop, drop, arith, Bor, if◌then◌else◌, eqb-true, eq-eqb, le_of_eq}
use Rattle.std.specs.Prelude.{Result, Ok, Err, Some, None, nat_lt, nat_eq, ◌==◌, ◌&&◌, ◌||◌}
use Rattle.std.specs.declared.option.Option.{Option}
use Rattle.std.specs.Cmp.Lexicographic.{pointwise, other_text}
use Rattle.std.proofs.Math.Nat.{div-add-mod, div-le_self, mul-div-le, mul-le-mul_right, add-mul, one-mul, le_trans}
use Rattle.std.proofs.Math.Seq.{drop-length}
use borrow.Author.Tests.{ltb-false}
use Rattle.le.specs.Le.{le4}
use Rattle.le.proofs.Laws.{not_both}
use Rattle.part.specs.Slice.{after}
use Rattle.part.specs.Outcome.{outcome, and_then}
use Rattle.part.proofs.Outcome.{both_passed}
use Rattle.refusal.specs.Refusal.{most_aliases}
use Rattle.refusal.specs.declared.Refusal.{Refusal}
use Rattle.refusal.specs.declared.Refusal.TheVariants.{OffsetTooLarge, NoOffset, NoSuchType, WrongDimensions, TooManyAliases, BadPath}
use Rattle.names.specs.Names.{same_name}
use Rattle.path.specs.declared.Subscript.{Subscript}
use Rattle.path.specs.declared.Split.{Split}
use Rattle.path.specs.declared.Part.{Part}
use Rattle.path.specs.declared.Part.TheVariants.{Member, Element}
use Rattle.path.specs.Path.{first_part}
use Rattle.bind.specs.declared.Address.{Address}
use Rattle.bind.specs.declared.reading.Entry.{Entry}
use Rattle.bind.specs.declared.steps.Here.{Here}
use Rattle.bind.specs.Reading.{behind, own_of, name_of, symbol_entry, type_entry}
use Rattle.bind.specs.Binding.{Finder, unit, dimensions, moved, member_of, at_member, to_member, index_of, at_element, to_element, to_part, says_again, at_type, to_type, rests, settled, along, longest, start_at, below, told, from_symbol, within_limit, binding}
use Rattle.bind.specs.Adding.{bits, items_of, IsElement}
use Rattle.bind.proofs.Adding.{steps_add}
use Rattle.bindings_meant.proofs.Longest.{names_symbol, one_symbol}
use Rattle.bindings_meant.specs.Nesting.{element, bits_of, element_bits, Fits, element_size, array_again, EachWithin, LiesWithin, AddressWithin}

-- an element is no larger than the array
element_less : (n : ℕ) (arrays : List ℕ) (size : ℕ) → element n arrays size ≤ size
unfolding element
element_less zero arrays size = le_of_eq refl
element_less (suc n) arrays size = le_trans (element_less n (drop 8 arrays) (size / le4 arrays 4)) (div-le_self size (le4 arrays 4))

element_none : (arrays : List ℕ) (size : ℕ) → element 0 arrays size ≡ size
unfolding element
element_none arrays size = refl

-- of what is left of the array records
left_element : List ℕ → ℕ → ℕ
left_element left size = element (length left / 8) left size

one_row : (left : List ℕ) (size : ℕ) → 7 < length left → left_element (drop 8 left) (size / le4 left 4) ≡ left_element left size
unfolding left_element element
one_row left size h =
    let fewer : length (drop 8 left) / 8 ≡ (length left / 8) - 1 = omega (arith, length-drop 8 left) in
    by (length left / 8) refl fewer
  where
    by : (n : ℕ) → length left / 8 ≡ n → length (drop 8 left) / 8 ≡ n - 1 → element (length (drop 8 left) / 8) (drop 8 left) (size / le4 left 4) ≡ element n left size
    by zero e f = absurd (omega arith)
    by (suc n) e f = let same : length (drop 8 left) / 8 ≡ n = omega (arith, f) in ap (λ (k : ℕ). element k (drop 8 left) (size / le4 left 4)) same

-- a data type that says again of nothing fits by its size
by_size : (e type : Entry) → says_again e type ≡ false → Fits e type → bits_of type ≤ element_bits e
unfolding says_again
by_size e type h (element_size k) = k
by_size e type h (array_again a s u) = by (length e.arrays.now == 0) (type.size == e.size) (pointwise nat_eq type.arrays.now e.arrays.now) refl refl refl h
  where
    same : bits_of type ≡ bits_of e
    same = ap₂ (λ (n : ℕ) (b : Bool). n * (if b then 1 else 8)) s u

    by : (p q r : Bool) → (length e.arrays.now == 0) ≡ p → (type.size == e.size) ≡ q → pointwise nat_eq type.arrays.now e.arrays.now ≡ r → (if p then false else if q then r else false) ≡ false → bits_of type ≤ element_bits e
    by true q r x y z k =
        let none : length e.arrays.now / 8 ≡ 0 = omega (arith, eqb-true (length e.arrays.now) 0 x) in
        le_of_eq (same ∙ sym (ap (λ (n : ℕ). element n e.arrays.now e.size * unit e) none ∙ ap (λ (n : ℕ). n * unit e) (element_none e.arrays.now e.size)))
    by false false r x y z k = absurd (not_both (eq-eqb type.size e.size s) y)
    by false true false x y z k = absurd (other_text type.arrays.now e.arrays.now (sym z) a)
    by false true true x y z k = absurd (not_both refl k)

record Moved (here : Here) (e : Entry) (more size : ℕ) (left : Bor (List ℕ)) (there : Here) : Type 0 where
  adds : bits there ≡ bits here + more
  entry : there.entry ≡ e
  size_is : there.size ≡ size
  left_is : there.left ≡ left

moved_is : (here : Here) (e : Entry) (more size : ℕ) (left : Bor (List ℕ)) (there : Here) → moved here e more size left ≡ Ok there → Moved here e more size left there
unfolding moved
moved_is here e more size left there h = by (nat_lt 4294967295 (to / 8)) h
  where
    to : ℕ
    to = 8 * here.offset + here.bit + more

    gone : Here
    gone = record { entry = e; offset = to / 8; bit = to % 8; size = size; left = left }

    by : (t : Bool) → (if t then Err (OffsetTooLarge (to / 8)) else Ok gone) ≡ Ok there → Moved here e more size left there
    by true k = absurd (grind arith)
    by false k =
        let is : gone ≡ there = cc in
        record {
          adds = ap bits (sym is) ∙ div-add-mod to 8;
          entry = ap (λ (h : Here). h.entry) (sym is);
          size_is = ap (λ (h : Here). h.size) (sym is);
          left_is = ap (λ (h : Here). h.left) (sym is);
        }

-- a sub-item that was found is one of them
record Among (items : List (Bor (List ℕ))) (end : ℕ) (e : Entry) : Type 0 where
  before : List (Bor (List ℕ))
  item : Bor (List ℕ)
  later : List (Bor (List ℕ))
  among : items ≡ before ++ (item ∷ later)
  is : type_entry item end ≡ e

among_is : (name : List ℕ) (n : ℕ) (s : Bor (List ℕ)) (end : ℕ) (e : Entry) → member_of name n s end ≡ Some e → Among (items_of n s) end e
unfolding member_of items_of
among_is name zero s end e h = absurd (grind arith)
among_is name (suc n) s end e h = by (same_name (name_of s).now name) h (among_is name n (behind s (le4 s.now 0)) end e)
  where
    rest : Bor (List ℕ)
    rest = behind s (le4 s.now 0)

    by : (t : Bool) → (if t then Some (type_entry s end) else member_of name n rest end) ≡ Some e → (member_of name n rest end ≡ Some e → Among (items_of n rest) end e) → Among (s ∷ items_of n rest) end e
    by true k more = record { before = []; item = s; later = items_of n rest; among = refl; is = cc }
    by false k more = let f = more k in record { before = s ∷ f.before; item = f.item; later = f.later; among = ap (λ (l : List (Bor (List ℕ))). s ∷ l) f.among; is = f.is }

-- the sub-item to which a name leads
record Arrived (here there : Here) : Type 0 where
  e : Entry
  found : Among (items_of here.entry.items.count here.entry.items.bytes) here.entry.end e
  gone : Moved here e (e.offset * unit e) e.size e.arrays there

arrived : (here there : Here) (name : List ℕ) (at : ℕ) → to_member here name at ≡ Ok there → Arrived here there
unfolding to_member at_member
arrived here there name at h = by (nat_lt 7 (length here.left.now)) h
  where
    found : Option Entry
    found = member_of name here.entry.items.count here.entry.items.bytes here.entry.end

    marked : (e : Entry) → found ≡ Some e → (t : Bool) → (if t then moved here e (e.offset * unit e) e.size e.arrays else Err (NoOffset at e.mark)) ≡ Ok there → Arrived here there
    marked e f true k = record { e = e; found = among_is name here.entry.items.count here.entry.items.bytes here.entry.end e f; gone = moved_is here e (e.offset * unit e) e.size e.arrays there k }
    marked e f false k = absurd (grind arith)

    on : (o : Option Entry) → found ≡ o → at_member here at o ≡ Ok there → Arrived here there
    on None f k = absurd (grind arith)
    on (Some e) f k = marked e f (e.mark == 0) k

    by : (t : Bool) → (if t then Err (WrongDimensions at (dimensions here.entry)) else at_member here at found) ≡ Ok there → Arrived here there
    by true k = absurd (grind arith)
    by false k = on found refl k

-- a number leaves the entry as it is, and is asked of a dimension
record Stayed (here there : Here) : Type 0 where
  entry : there.entry ≡ here.entry
  array : 7 < length here.left.now

stayed : (here there : Here) (n : Subscript) (at : ℕ) → to_element here n at ≡ Ok there → Stayed here there
unfolding to_element at_element
stayed here there n at h = by (nat_lt (length here.left.now) 8) refl h
  where
    on : (o : Option ℕ) → 7 < length here.left.now → at_element here at o ≡ Ok there → Stayed here there
    on None s k = absurd (grind arith)
    on (Some index) s k =
        let size : ℕ = here.size / le4 here.left.now 4 in
        let m = moved_is here here.entry (index * size * unit here.entry) size (behind here.left 8) there k in
        record { entry = m.entry; array = s }

    by : (t : Bool) → nat_lt (length here.left.now) 8 ≡ t → (if t then Err (WrongDimensions at (dimensions here.entry)) else at_element here at (index_of n (le4 here.left.now 0) (le4 here.left.now 4))) ≡ Ok there → Stayed here there
    by true q k = absurd (grind arith)
    by false q k = let some : 8 ≤ length here.left.now = ltb-false (length here.left.now) 8 q in on (index_of n (le4 here.left.now 0) (le4 here.left.now 4)) (omega arith) k

pub behind_all : (s : Bor (List ℕ)) → (behind s (length s.now)).now ≡ []
behind_all s = let all : min (length s.now) (length s.now) ≡ length s.now = omega arith in ap (λ (n : ℕ). drop n s.now) all ∙ drop-length s.now

pub behind_none : (s : Bor (List ℕ)) → (behind s 0).now ≡ s.now
behind_none s = let none : min 0 (length s.now) ≡ 0 = omega arith in ap (λ (n : ℕ). drop n s.now) none

pub behind_row : (s : Bor (List ℕ)) → 7 < length s.now → (behind s 8).now ≡ drop 8 s.now
behind_row s h = let row : min 8 (length s.now) ≡ 8 = omega arith in ap (λ (n : ℕ). drop n s.now) row

module _ (find : Finder) (types : Bor (List ℕ)) (known : Entry → Bool) (each : EachWithin find types known) (from to : ℕ) where
  abbrev Known : Entry → Type 0
  Known e = known e ≡ true

  -- all of what is here lies between two places, in bits, and is one of the entry's arrays of the dimensions that are left
  record Inside (here : Here) : Type 0 where
    is_known : Known here.entry
    begins : from ≤ bits here
    ends : bits here + here.size * unit here.entry ≤ to
    rows : left_element here.left.now here.size ≡ left_element here.entry.arrays.now here.entry.size

  -- an element of what is here does, and all of it while there are dimensions left
  record Rested (here : Here) : Type 0 where
    is_known : Known here.entry
    begins : from ≤ bits here
    ends : bits here + element_bits here.entry ≤ to
    array : 7 < length here.left.now → Inside here

  rested : (here : Here) → Inside here → Rested here
  unfolding left_element
  rested here i =
      let less : left_element here.left.now here.size ≤ here.size = element_less (length here.left.now / 8) here.left.now here.size in
      let wide : left_element here.left.now here.size * unit here.entry ≤ here.size * unit here.entry = mul-le-mul_right (unit here.entry) less in
      let same : left_element here.left.now here.size * unit here.entry ≡ element_bits here.entry = ap (λ (n : ℕ). n * unit here.entry) i.rows in
      record { is_known = i.is_known; begins = i.begins; ends = omega (arith, i.ends, wide, same); array = λ h. i }

  -- the data type that starts at a place
  typed : (here next : Here) (start at : ℕ) → Rested here → here.entry.items.count ≡ 0 → find here.entry.type_name.now ≡ Ok start → at_type here types start at ≡ Ok next → Rested next
  unfolding at_type left_element
  typed here next start at r none f h = by (says_again here.entry e) (e.mark == 0) refl h
    where
      e : Entry
      e = type_entry (behind types start) (length types.now)

      its : Known e × Fits here.entry e
      its = each.data_types here.entry start r.is_known none f

      gone : Bool → Here
      gone t = record here { entry = e; size = e.size; left = behind e.arrays (if t then length e.arrays.now else 0) }

      fits : Fits here.entry e → element_bits e ≤ element_bits here.entry
      fits (element_size k) = le_trans (mul-le-mul_right (unit e) (element_less (length e.arrays.now / 8) e.arrays.now e.size)) k
      fits (array_again a s u) = le_of_eq (λ i. element (length (a i) / 8) (a i) (s i) * (if u i then 1 else 8))

      at_once : (t : Bool) → says_again here.entry e ≡ t → Rested (gone t)
      at_once true q =
          record {
            is_known = its.0;
            begins = r.begins;
            ends = omega (arith, r.ends, fits its.1);
            array = λ k. let over : length (behind e.arrays (length e.arrays.now)).now ≡ 0 = ap (λ (l : List ℕ). length l) (behind_all e.arrays) in absurd (omega (arith, over, k));
          }
      at_once false q =
          rested (gone false)
          record {
            is_known = its.0;
            begins = r.begins;
            ends = omega (arith, r.ends, by_size here.entry e q its.1);
            rows = ap (λ (l : List ℕ). element (length l / 8) l e.size) (behind_none e.arrays);
          }

      by : (t m : Bool) → says_again here.entry e ≡ t → (if m then Ok (gone t) else Err (NoOffset at e.mark)) ≡ Ok next → Rested next
      by t true q k = let is : gone t ≡ next = cc in subst Rested is (at_once t q)
      by t false q k = absurd (grind arith)

  through : (here next : Here) (at : ℕ) → Rested here → here.entry.items.count ≡ 0 → to_type find types here at ≡ Ok next → Rested next
  unfolding to_type
  through here next at r none h = by (find here.entry.type_name.now) refl h
    where
      by : (f : Result ℕ Refusal) → find here.entry.type_name.now ≡ f → outcome f (λ start. at_type here types start at) (λ why. Err (NoSuchType at)) ≡ Ok next → Rested next
      by (Ok start) f k = typed here next start at r none f k
      by (Err why) f k = absurd (grind arith)

  same_rested : (here there : Here) → Rested here → ◌≡◌ {A = Result Here Refusal} (Ok here) (Ok there) → Rested there
  same_rested here there r h = let is : here ≡ there = cc in subst Rested is r

  no_items : (here : Here) → rests here ≡ false → here.entry.items.count ≡ 0
  no_items here h = by (nat_lt 7 (length here.left.now)) (nat_lt 0 here.entry.items.count) refl h
    where
      by : (a b : Bool) → nat_lt 0 here.entry.items.count ≡ b → (a || b) ≡ false → here.entry.items.count ≡ 0
      by true b q k = absurd (not_both refl k)
      by false true q k = absurd (not_both refl k)
      by false false q k = let none : here.entry.items.count ≤ 0 = ltb-false 0 here.entry.items.count q in omega arith

  settled_is : (most : ℕ) (here there : Here) (at : ℕ) → Rested here → settled find types most here at ≡ Ok there → Rested there
  unfolding settled
  settled_is zero here there at r h = by (rests here) (here.entry.pointer == 0) h
    where
      by : (a p : Bool) → (if a then Ok here else if p then Err (TooManyAliases at) else Err (NoOffset at here.entry.pointer)) ≡ Ok there → Rested there
      by true p k = same_rested here there r k
      by false true k = absurd (grind arith)
      by false false k = absurd (grind arith)
  settled_is (suc most) here there at r h = by (λ next. settled_is most next there at) (rests here) (here.entry.pointer == 0) refl h
    where
      by : ((next : Here) → Rested next → settled find types most next at ≡ Ok there → Rested there) → (a p : Bool) → rests here ≡ a
          → (if a then Ok here else if p then and_then (to_type find types here at) (λ next. settled find types most next at) else Err (NoOffset at here.entry.pointer)) ≡ Ok there → Rested there
      by more true p q k = same_rested here there r k
      by more false true q k =
          let b = both_passed (to_type find types here at) k in
          more b.0 (through here b.0 at r (no_items here q) b.1.0) b.1.1
      by more false false q k = absurd (grind arith)

  -- a member
  member_inside : (here there : Here) (name : List ℕ) (at : ℕ) → Rested here → to_member here name at ≡ Ok there → Inside there
  unfolding left_element
  member_inside here there name at r h =
      let a = arrived here there name at h in
      let g = a.found in
      let its = each.members here.entry g.before g.item g.later r.is_known g.among in
      let know : Known a.e = subst Known g.is its.0 in
      let room : (a.e.offset + a.e.size) * unit a.e ≤ element_bits here.entry = subst (λ (e : Entry). (e.offset + e.size) * unit e ≤ element_bits here.entry) g.is its.1 in
      let split : (a.e.offset + a.e.size) * unit a.e ≡ a.e.offset * unit a.e + a.e.size * unit a.e = add-mul a.e.offset a.e.size (unit a.e) in
      let size : there.size * unit there.entry ≡ a.e.size * unit a.e = ap₂ (λ (n : ℕ) (e : Entry). n * unit e) a.gone.size_is a.gone.entry in
      record {
        is_known = subst Known (sym a.gone.entry) know;
        begins = omega (arith, r.begins, a.gone.adds);
        ends = omega (arith, r.ends, room, split, size, a.gone.adds);
        rows =
            ap₂ (λ (l : Bor (List ℕ)) (n : ℕ). element (length l.now / 8) l.now n) a.gone.left_is a.gone.size_is
            ∙ ap (λ (e : Entry). element (length e.arrays.now / 8) e.arrays.now e.size) (sym a.gone.entry);
      }

  -- an element
  element_inside : (here there : Here) (n : Subscript) (at : ℕ) → Rested here → to_element here n at ≡ Ok there → Inside there
  element_inside here there n at r h =
      let s = stayed here there n at h in
      let i = r.array s.array in
      let x : IsElement here n there = steps_add.element here there n at h in
      let elements : ℕ = le4 here.left.now 4 in
      let row : ℕ = here.size / elements in
      let u : ℕ = unit here.entry in
      let below : x.index + 1 ≤ elements = omega (arith, x.inside) in
      let all : (x.index + 1) * row ≤ here.size = le_trans (mul-le-mul_right row below) (mul-div-le here.size elements) in
      let wide : ((x.index + 1) * row) * u ≤ here.size * u = mul-le-mul_right u all in
      let one : ((x.index + 1) * row) * u ≡ x.index * row * u + row * u =
      ap (λ (k : ℕ). k * u) (add-mul x.index 1 row ∙ ap (λ (k : ℕ). x.index * row + k) (one-mul row)) ∙ add-mul (x.index * row) row u in
      let adds : bits there ≡ bits here + x.index * row * u = x.adds ∙ ap (λ (k : ℕ). bits here + x.index * k * u) x.size in
      let size : there.size * unit there.entry ≡ row * u = ap₂ (λ (k : ℕ) (e : Entry). k * unit e) x.size s.entry in
      record {
        is_known = subst Known (sym s.entry) r.is_known;
        begins = omega (arith, r.begins, adds);
        ends = omega (arith, i.ends, wide, one, adds, size);
        rows =
            ap₂ (λ (l : Bor (List ℕ)) (k : ℕ). left_element l.now k) x.left x.size
            ∙ ap (λ (l : List ℕ). left_element l row) (behind_row here.left s.array)
            ∙ one_row here.left.now here.size s.array
            ∙ i.rows
            ∙ ap (λ (e : Entry). left_element e.arrays.now e.size) (sym s.entry);
      }

  part_inside : (here there : Here) (p : Part) (at : ℕ) → Rested here → to_part here p at ≡ Ok there → Inside there
  unfolding to_part
  part_inside here there (Member name) at r h = member_inside here there name.now at r h
  part_inside here there (Element n) at r h = element_inside here there n at r h

  along_inside : (long n : ℕ) (here there : Here) (text : Bor (List ℕ)) → Inside here → along find types long n here text ≡ Ok there → Inside there
  unfolding along
  along_inside long zero here there text i h = let is : here ≡ there = cc in subst Inside is i
  along_inside long (suc n) here there text i h = by (λ next rest. along_inside long n next there rest) (length text.now == 0) h
    where
      at : ℕ
      at = long + 1 - length text.now

      on : ((next : Here) (rest : Bor (List ℕ)) → Inside next → along find types long n next rest ≡ Ok there → Inside there) → (f : Result Split ℕ)
          → outcome f (λ p. and_then (settled find types most_aliases here at) (λ next. and_then (to_part next p.part at) (λ last. along find types long n last p.rest))) (λ left. Err (BadPath (long - left))) ≡ Ok there → Inside there
      on more (Err left) k = absurd (grind arith)
      on more (Ok p) k =
          let b = both_passed (settled find types most_aliases here at) k in
          let c = both_passed (to_part b.0 p.part at) b.1.1 in
          more c.0 p.rest (part_inside b.0 c.0 p.part at (settled_is most_aliases here b.0 at (rested here i) b.1.0) c.1.0) c.1.1

      by : ((next : Here) (rest : Bor (List ℕ)) → Inside next → along find types long n next rest ≡ Ok there → Inside there) → (t : Bool)
          → (if t then Ok here else outcome (first_part text) (λ p. and_then (settled find types most_aliases here at) (λ next. and_then (to_part next p.part at) (λ last. along find types long n last p.rest))) (λ left. Err (BadPath (long - left)))) ≡ Ok there
          → Inside there
      by more true k = let is : here ≡ there = cc in subst Inside is i
      by more false k = on more (first_part text) k

  below_inside : (long : ℕ) (e : Entry) (there : Here) (text : Bor (List ℕ)) → Inside (start_at e) → below find types long e text ≡ Ok there → Inside there
  unfolding below
  below_inside long e there text i h = by (length text.now == 0) (e.mark == 0) h
    where
      by : (t m : Bool) → (if t then Ok (start_at e) else if m then along find types long (length text.now) (start_at e) text else Err (NoOffset (long + 1 - length text.now) e.mark)) ≡ Ok there → Inside there
      by true m k = let is : start_at e ≡ there = cc in subst Inside is i
      by false true k = along_inside long (length text.now) (start_at e) there text i k
      by false false k = absurd (grind arith)

  start_inside : (e : Entry) → Known e → from ≤ 8 * e.offset → 8 * e.offset + e.size * unit e ≤ to → Inside (start_at e)
  start_inside e k f t = record { is_known = k; begins = omega (arith, f); ends = omega (arith, t); rows = refl }

told_within : (long group from to : ℕ) (here : Here) (a : Address) → 8 * from ≤ bits here → bits here + here.size * unit here.entry ≤ 8 * to → told long group here ≡ Ok a → LiesWithin group from to a
unfolding told
told_within long group from to here a begins ends h = by (nat_lt 7 (length here.left.now) && nat_lt (length here.left.now) (length here.entry.arrays.now)) h
  where
    gone : Address
    gone =
        record {
          group = record { 0 = group };
          offset = record { 0 = here.offset };
          bit = here.bit;
          size = here.size;
          size_in_bits = here.entry.in_bits;
          type_name = here.entry.type_name;
          place = here.entry.place;
        }

    by : (t : Bool) → (if t then Err (WrongDimensions long (dimensions here.entry)) else Ok gone) ≡ Ok a → LiesWithin group from to a
    by true k = absurd (grind arith)
    by false k = let is : gone ≡ a = cc in subst (LiesWithin group from to) is record { in_group = refl; begins = begins; ends = ends }

symbol_offset : (s : Bor (List ℕ)) (at : ℕ) → (symbol_entry s at).offset ≡ le4 (own_of (behind s at)).now 8
unfolding symbol_entry
symbol_offset s at = refl

symbol_size : (s : Bor (List ℕ)) (at : ℕ) → (symbol_entry s at).size * unit (symbol_entry s at) ≡ le4 (own_of (behind s at)).now 12 * 8
unfolding symbol_entry
symbol_size s at = refl

pub address_within : AddressWithin
unfolding binding from_symbol
address_within find_symbol find_type symbols types path known found a each start its h =
    let b = both_passed (within_limit symbols.now) h in
    let c = both_passed (within_limit types.now) b.1.1 in
    let d = both_passed (within_limit path.now) c.1.1 in
    let f = both_passed (longest find_symbol path.now (length path.now + 1)) d.1.1 in
    let is : f.0 ≡ found = one_symbol find_symbol path.now f.0 found (names_symbol find_symbol path.now f.0 f.1.0) start in
    let last : from_symbol find_type symbols types path found ≡ Ok a = subst (λ (x : ℕ × ℕ). from_symbol find_type symbols types path x ≡ Ok a) is f.1.1 in
    let g = both_passed (below find_type types (length path.now) (symbol_entry symbols found.1) (after path found.0)) last in
    let own : List ℕ = (own_of (behind symbols found.1)).now in
    let from : ℕ = le4 own 8 in
    let to : ℕ = le4 own 8 + le4 own 12 in
    let o : (symbol_entry symbols found.1).offset ≡ from = symbol_offset symbols found.1 in
    let z : (symbol_entry symbols found.1).size * unit (symbol_entry symbols found.1) ≡ le4 own 12 * 8 = symbol_size symbols found.1 in
    let inside = below_inside find_type types known each (8 * from) (8 * to) (length path.now) (symbol_entry symbols found.1) g.0 (after path found.0)
    (start_inside find_type types known each (8 * from) (8 * to) (symbol_entry symbols found.1) its (omega (arith, o)) (omega (arith, o, z))) g.1.0 in
    told_within (length path.now) (le4 own 4) from to g.0 a inside.begins inside.ends g.1.1

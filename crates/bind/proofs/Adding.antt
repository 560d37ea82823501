-- What a part of a path adds: proved.
use Rattle.std.proofs.Common.{ℕ, zero, suc, ◌+◌, ◌-◌, ◌*◌, ◌/◌, ◌%◌, ◌<◌, ◌≤◌, ◌≡◌, refl, sym, ap, ◌∙◌, Bool, true, false, List, [], ◌∷◌, ◌++◌, length, arith, Bor, if◌then◌else◌, eqb-true}
use Rattle.std.specs.Prelude.{Result, Ok, Err, Some, None, nat_lt, ◌==◌}
use Rattle.std.specs.declared.option.Option.{Option}
use Rattle.std.proofs.Math.Nat.{div-add-mod}
use borrow.Author.Tests.{ltb-true, ltb-false}
use Rattle.le.specs.Le.{le4, has}
use Rattle.le.proofs.Laws.{not_both}
use Rattle.part.specs.Outcome.{outcome, and_then}
use Rattle.refusal.specs.declared.Refusal.{Refusal}
use Rattle.refusal.specs.declared.Refusal.TheVariants.{OffsetTooLarge, NoOffset, NoSuchType, WrongDimensions, TooManyAliases}
use Rattle.names.specs.Names.{same_name}
use Rattle.names.proofs.Meaning.{same_by_letters}
use Rattle.path.specs.declared.Subscript.{Subscript}
use Rattle.bind.specs.declared.reading.Entry.{Entry}
use Rattle.bind.specs.declared.steps.Here.{Here}
use Rattle.bind.specs.Reading.{behind, own_of, name_of, type_mark, type_entry}
use Rattle.bind.specs.Binding.{Finder, unit, dimensions, moved, member_of, at_member, to_member, from_lower, index_of, at_element, to_element, rests, says_again, at_type, to_type, settled}
use Rattle.bind.specs.Adding.{bits, items_of, NoneNamed, none, other, IsMember, IsAbove, from_0, over_0, below_0, minus_0, IsElement, StepsAdd}

record Moved (here : Here) (e : Entry) (more size : ℕ) (left : Bor (List ℕ)) (there : Here) : Type 0 where
  adds : bits there ≡ bits here + more
  entry : there.entry ≡ e
  size_is : there.size ≡ size
  left_is : there.left ≡ left

moved_is : (here : Here) (e : Entry) (more size : ℕ) (left : Bor (List ℕ)) (there : Here) → moved here e more size left ≡ Ok there → Moved here e more size left there
unfolding moved
moved_is here e more size left there h = by (nat_lt 4294967295 (to / 8)) h
  where
    to : ℕ
    to = 8 * here.offset + here.bit + more

    gone : Here
    gone = record { entry = e; offset = to / 8; bit = to % 8; size = size; left = left }

    by : (t : Bool) → (if t then Err (OffsetTooLarge (to / 8)) else Ok gone) ≡ Ok there → Moved here e more size left there
    by true k = absurd cc
    by false k =
        let is : gone ≡ there = cc in
        record {
          adds = ap bits (sym is) ∙ div-add-mod to 8;
          entry = ap (λ (h : Here). h.entry) (sym is);
          size_is = ap (λ (h : Here). h.size) (sym is);
          left_is = ap (λ (h : Here). h.left) (sym is);
        }

pub record First (name : List ℕ) (items : List (Bor (List ℕ))) (end : ℕ) (e : Entry) : Type 0 where
  pub before : List (Bor (List ℕ))
  pub item : Bor (List ℕ)
  pub later : List (Bor (List ℕ))
  pub among : items ≡ before ++ (item ∷ later)
  pub first : NoneNamed name before
  pub same : same_name (name_of item).now name ≡ true
  pub is : type_entry item end ≡ e

pub first_is : (name : List ℕ) (n : ℕ) (s : Bor (List ℕ)) (end : ℕ) (e : Entry) → member_of name n s end ≡ Some e → First name (items_of n s) end e
unfolding member_of items_of
first_is name zero s end e h = absurd cc
first_is name (suc n) s end e h = by (same_name (name_of s).now name) refl h (first_is name n (behind s (le4 s.now 0)) end e)
  where
    rest : Bor (List ℕ)
    rest = behind s (le4 s.now 0)

    by : (t : Bool) → same_name (name_of s).now name ≡ t → (if t then Some (type_entry s end) else member_of name n rest end) ≡ Some e
        → (member_of name n rest end ≡ Some e → First name (items_of n rest) end e) → First name (s ∷ items_of n rest) end e
    by true q k more = record { before = []; item = s; later = items_of n rest; among = refl; first = none; same = q; is = cc }
    by false q k more =
        let f = more k in
        record {
          before = s ∷ f.before;
          item = f.item;
          later = f.later;
          among = ap (λ (l : List (Bor (List ℕ))). s ∷ l) f.among;
          first = other (λ l. not_both ((same_by_letters (name_of s).now name).1 l) q) f.first;
          same = f.same;
          is = f.is;
        }

-- a mark that is 0 is none of three flags
pub record Plain (flags : ℕ) : Type 0 where
  pub reference : has flags 0x4 ≡ false
  pub property : has flags 0x40 ≡ false
  pub static_member : has flags 0x20000 ≡ false

pub plain_is : (flags : ℕ) → type_mark flags ≡ 0 → Plain flags
plain_is flags h = by (has flags 0x4) (has flags 0x40) (has flags 0x20000) refl refl refl h
  where
    by : (a b c : Bool) → has flags 0x4 ≡ a → has flags 0x40 ≡ b → has flags 0x20000 ≡ c → ◌≡◌ {A = ℕ} (if a then 0x4 else if b then 0x40 else if c then 0x20000 else 0) 0 → Plain flags
    by true b c p q r k = absurd (omega (arith, k))
    by false true c p q r k = absurd (omega (arith, k))
    by false false true p q r k = absurd (omega (arith, k))
    by false false false p q r k = record { reference = p; property = q; static_member = r }

-- what an entry tells that was found as a sub-item
offset_of : (s : Bor (List ℕ)) (end : ℕ) → (type_entry s end).offset ≡ le4 (own_of s).now 20
unfolding type_entry
offset_of s end = refl

size_of : (s : Bor (List ℕ)) (end : ℕ) → (type_entry s end).size ≡ le4 (own_of s).now 16
unfolding type_entry
size_of s end = refl

bits_of : (s : Bor (List ℕ)) (end : ℕ) → (type_entry s end).in_bits ≡ has (le4 (own_of s).now 28) 0x20
unfolding type_entry
bits_of s end = refl

mark_of : (s : Bor (List ℕ)) (end : ℕ) → (type_entry s end).mark ≡ type_mark (le4 (own_of s).now 28)
unfolding type_entry
mark_of s end = refl

record Arrived (here : Here) (e : Entry) (there : Here) : Type 0 where
  adds : bits there ≡ bits here + e.offset * unit e
  entry : there.entry ≡ e
  size_is : there.size ≡ e.size
  mark : e.mark ≡ 0

arrived : (here there : Here) (e : Entry) (at : ℕ) → at_member here at (Some e) ≡ Ok there → Arrived here e there
unfolding at_member
arrived here there e at h = by (e.mark == 0) refl h
  where
    by : (t : Bool) → (e.mark == 0) ≡ t → (if t then moved here e (e.offset * unit e) e.size e.arrays else Err (NoOffset at e.mark)) ≡ Ok there → Arrived here e there
    by true q k = let m = moved_is here e (e.offset * unit e) e.size e.arrays there k in record { adds = m.adds; entry = m.entry; size_is = m.size_is; mark = eqb-true e.mark 0 q }
    by false q k = absurd cc

not_found : (here there : Here) (at : ℕ) → at_member here at None ≡ Ok there → ⊥
unfolding at_member
not_found here there at h = grind arith

reached : (here there : Here) (name : List ℕ) (at : ℕ) (e : Entry) → member_of name here.entry.items.count here.entry.items.bytes here.entry.end ≡ Some e → at_member here at (Some e) ≡ Ok there → IsMember here name there
reached here there name at e f k =
    let a = arrived here there e at k in
    let g = first_is name here.entry.items.count here.entry.items.bytes here.entry.end e f in
    let end = here.entry.end in
    let o : e.offset ≡ le4 (own_of g.item).now 20 = ap (λ (x : Entry). x.offset) (sym g.is) ∙ offset_of g.item end in
    let b : e.in_bits ≡ has (le4 (own_of g.item).now 28) 0x20 = ap (λ (x : Entry). x.in_bits) (sym g.is) ∙ bits_of g.item end in
    let p = plain_is (le4 (own_of g.item).now 28) (sym (ap (λ (x : Entry). x.mark) (sym g.is) ∙ mark_of g.item end) ∙ a.mark) in
    let by_unit : (t : Bool) → has (le4 (own_of g.item).now 28) 0x20 ≡ t → e.offset * unit e ≡ e.offset * (if t then 1 else 8) =
    λ t q. ap (λ (u : Bool). e.offset * (if u then 1 else 8)) (b ∙ q) in
    record {
      before = g.before;
      item = g.item;
      later = g.later;
      among = g.among;
      first = g.first;
      same = (same_by_letters (name_of g.item).now name).0 g.same;
      in_bytes = λ q. let u : e.offset * unit e ≡ e.offset * 8 = by_unit false q in omega (arith, a.adds, u, o);
      in_bits = λ q. let u : e.offset * unit e ≡ e.offset * 1 = by_unit true q in omega (arith, a.adds, u, o);
      size = a.size_is ∙ ap (λ (x : Entry). x.size) (sym g.is) ∙ size_of g.item end;
      size_in_bits = ap (λ (x : Entry). x.in_bits) a.entry ∙ b;
      reference = p.reference;
      property = p.property;
      static_member = p.static_member;
    }

member_is : (here there : Here) (name : List ℕ) (at : ℕ) → to_member here name at ≡ Ok there → IsMember here name there
unfolding to_member
member_is here there name at h = by (nat_lt 7 (length here.left.now)) h
  where
    found : Option Entry
    found = member_of name here.entry.items.count here.entry.items.bytes here.entry.end

    on : (o : Option Entry) → found ≡ o → at_member here at o ≡ Ok there → IsMember here name there
    on None f k = absurd (not_found here there at k)
    on (Some e) f k = reached here there name at e f k

    by : (t : Bool) → (if t then Err (WrongDimensions at (dimensions here.entry)) else at_member here at found) ≡ Ok there → IsMember here name there
    by true k = absurd cc
    by false k = on found refl k

-- an index is below the number of elements, and so much above the lower bound
record Inside (number lower elements index : ℕ) : Type 0 where
  below : index < elements
  is : number ≡ (lower + 2147483648) % 4294967296 + index

inside : (number lower elements index : ℕ) → from_lower number lower elements ≡ Some index → Inside number lower elements index
inside number lower elements index h = by (nat_lt number low) (nat_lt (number - low) elements) refl refl h
  where
    low : ℕ
    low = (lower + 2147483648) % 4294967296

    by : (a b : Bool) → nat_lt number low ≡ a → nat_lt (number - low) elements ≡ b → (if a then None else if b then Some (number - low) else None) ≡ Some index → Inside number lower elements index
    by true b p q k = absurd cc
    by false false p q k = absurd cc
    by false true p q k =
        let is : number - low ≡ index = cc in
        let l : low ≤ number = ltb-false number low p in
        let m : number - low < elements = ltb-true (number - low) elements q in
        record { below = omega arith; is = omega arith }

pub record Indexed (negative : Bool) (m lower elements index : ℕ) : Type 0 where
  pub below : index < elements
  pub above : lower < 4294967296 → IsAbove lower index (record { negative = negative; magnitude = m })

pub indexed : (negative : Bool) (m lower elements index : ℕ) → index_of (record { negative = negative; magnitude = m }) lower elements ≡ Some index → Indexed negative m lower elements index
unfolding index_of
indexed true m lower elements index h = by (nat_lt 2147483648 m) refl h
  where
    sign : (t : Bool) → nat_lt lower 2147483648 ≡ t → m ≤ 2147483648 → lower < 4294967296 → 2147483648 - m ≡ (lower + 2147483648) % 4294967296 + index → IsAbove lower index (record { negative = true; magnitude = m })
    sign true q l w e = let s : lower < 2147483648 = ltb-true lower 2147483648 q in minus_0 (omega arith) (omega arith) (omega arith)
    sign false q l w e = let s : 2147483648 ≤ lower = ltb-false lower 2147483648 q in below_0 s (omega arith)

    by : (t : Bool) → nat_lt 2147483648 m ≡ t → (if t then None else from_lower (2147483648 - m) lower elements) ≡ Some index → Indexed true m lower elements index
    by true q k = absurd cc
    by false q k =
        let i = inside (2147483648 - m) lower elements index k in
        record { below = i.below; above = λ w. sign (nat_lt lower 2147483648) refl (ltb-false 2147483648 m q) w i.is }
indexed false m lower elements index h = by (nat_lt 8589934591 m) h
  where
    sign : (t : Bool) → nat_lt lower 2147483648 ≡ t → lower < 4294967296 → 2147483648 + m ≡ (lower + 2147483648) % 4294967296 + index → IsAbove lower index (record { negative = false; magnitude = m })
    sign true q w e = let s : lower < 2147483648 = ltb-true lower 2147483648 q in from_0 s (omega arith)
    sign false q w e = let s : 2147483648 ≤ lower = ltb-false lower 2147483648 q in over_0 s (omega arith)

    by : (t : Bool) → (if t then None else from_lower (2147483648 + m) lower elements) ≡ Some index → Indexed false m lower elements index
    by true k = absurd cc
    by false k =
        let i = inside (2147483648 + m) lower elements index k in
        record { below = i.below; above = λ w. sign (nat_lt lower 2147483648) refl w i.is }

no_element : (here there : Here) (at : ℕ) → at_element here at None ≡ Ok there → ⊥
unfolding at_element
no_element here there at h = grind arith

counted : (here there : Here) (n : Subscript) (at index : ℕ) → index_of n (le4 here.left.now 0) (le4 here.left.now 4) ≡ Some index → at_element here at (Some index) ≡ Ok there → IsElement here n there
unfolding at_element
counted here there n at index f k =
    let size : ℕ = here.size / le4 here.left.now 4 in
    let m = moved_is here here.entry (index * size * unit here.entry) size (behind here.left 8) there k in
    let i = indexed n.negative n.magnitude (le4 here.left.now 0) (le4 here.left.now 4) index f in
    record {
      index = index;
      inside = i.below;
      is = i.above;
      size = m.size_is;
      adds = m.adds ∙ ap (λ (x : ℕ). bits here + index * x * unit here.entry) (sym m.size_is);
      left = m.left_is;
    }

element_is : (here there : Here) (n : Subscript) (at : ℕ) → to_element here n at ≡ Ok there → IsElement here n there
unfolding to_element
element_is here there n at h = by (nat_lt (length here.left.now) 8) h
  where
    found : Option ℕ
    found = index_of n (le4 here.left.now 0) (le4 here.left.now 4)

    on : (o : Option ℕ) → found ≡ o → at_element here at o ≡ Ok there → IsElement here n there
    on None f k = absurd (no_element here there at k)
    on (Some index) f k = counted here there n at index f k

    by : (t : Bool) → (if t then Err (WrongDimensions at (dimensions here.entry)) else at_element here at found) ≡ Ok there → IsElement here n there
    by true k = absurd cc
    by false k = on found refl k

same_here : (here there : Here) → ◌≡◌ {A = Result Here Refusal} (Ok here) (Ok there) → bits there ≡ bits here
same_here here there h = let is : here ≡ there = cc in ap bits (sym is)

module _ (find : Finder) (types : Bor (List ℕ)) where
  typed : (here next : Here) (start at : ℕ) → at_type here types start at ≡ Ok next → bits next ≡ bits here
  unfolding at_type
  typed here next start at h = by (e.mark == 0) h
    where
      e : Entry
      e = type_entry (behind types start) (length types.now)

      gone : Here
      gone = record here { entry = e; size = e.size; left = behind e.arrays (if says_again here.entry e then length e.arrays.now else 0) }

      by : (t : Bool) → (if t then Ok gone else Err (NoOffset at e.mark)) ≡ Ok next → bits next ≡ bits here
      by true k = let is : gone ≡ next = cc in ap bits (sym is)
      by false k = absurd cc

  through : (here next : Here) (at : ℕ) → to_type find types here at ≡ Ok next → bits next ≡ bits here
  unfolding to_type
  through here next at h = by (find here.entry.type_name.now) h
    where
      by : (r : Result ℕ Refusal) → outcome r (λ start. at_type here types start at) (λ why. Err (NoSuchType at)) ≡ Ok next → bits next ≡ bits here
      by (Ok start) k = typed here next start at k
      by (Err why) k = absurd cc

  settled_is : (most : ℕ) (here there : Here) (at : ℕ) → settled find types most here at ≡ Ok there → bits there ≡ bits here
  unfolding settled
  settled_is zero here there at h = by (rests here) (here.entry.pointer == 0) h
    where
      by : (a p : Bool) → (if a then Ok here else if p then Err (TooManyAliases at) else Err (NoOffset at here.entry.pointer)) ≡ Ok there → bits there ≡ bits here
      by true p k = same_here here there k
      by false true k = absurd cc
      by false false k = absurd cc
  settled_is (suc most) here there at h = by (λ next. settled_is most next there at) (rests here) (here.entry.pointer == 0) h
    where
      on : ((next : Here) → settled find types most next at ≡ Ok there → bits there ≡ bits next) → (r : Result Here Refusal) → to_type find types here at ≡ r → and_then r (λ next. settled find types most next at) ≡ Ok there → bits there ≡ bits here
      on more (Ok next) e k = more next k ∙ through here next at e
      on more (Err why) e k = absurd cc

      by : ((next : Here) → settled find types most next at ≡ Ok there → bits there ≡ bits next) → (a p : Bool)
          → (if a then Ok here else if p then and_then (to_type find types here at) (λ next. settled find types most next at) else Err (NoOffset at here.entry.pointer)) ≡ Ok there → bits there ≡ bits here
      by more true p k = same_here here there k
      by more false true k = on more (to_type find types here at) refl k
      by more false false k = absurd cc

pub steps_add : StepsAdd
steps_add = record { member = member_is; element = element_is; data_type = settled_is }

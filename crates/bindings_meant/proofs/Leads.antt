-- What a part of a path leads to, both ways: proved, part by part.
use Rattle.std.proofs.Common.{ℕ, zero, suc, ◌+◌, ◌-◌, ◌*◌, ◌/◌, ◌%◌, ◌<◌, ◌≤◌, ◌≡◌, refl, sym, ap, subst, ◌∙◌, Bool, true, false, List, [], ◌∷◌, ◌++◌, length, arith, Bor, if◌then◌else◌, eqb-true, eq-eqb, ne_eqb}
use Rattle.std.specs.Prelude.{Result, Ok, Err, Some, None, nat_lt, nat_eq, ◌==◌, ◌||◌}
use Rattle.std.specs.declared.option.Option.{Option}
use Rattle.std.specs.Cmp.Lexicographic.{pointwise, same_text, other_text}
use Rattle.std.proofs.Math.Nat.{div-add-mod}
use Rattle.std.proofs.lemmas.List.{length-append}
use borrow.Author.Tests.{ltb-true, ltb-false, lt-ltb, le-ltb}
use Rattle.le.specs.Le.{le4}
use Rattle.le.proofs.Laws.{not_both}
use Rattle.part.specs.Outcome.{outcome, and_then}
use Rattle.part.proofs.Outcome.{both_passed}
use Rattle.refusal.specs.Refusal.{most_aliases}
use Rattle.refusal.specs.declared.Refusal.{Refusal}
use Rattle.refusal.specs.declared.Refusal.TheVariants.{OffsetTooLarge, NoOffset, NoSuchType, WrongDimensions, TooManyAliases, BadPath}
use Rattle.names.specs.Names.{same_name}
use Rattle.names.specs.Meaning.{SameLetters}
use Rattle.names.proofs.Meaning.{same_by_letters}
use Rattle.path.specs.declared.Subscript.{Subscript}
use Rattle.path.specs.declared.Split.{Split}
use Rattle.path.specs.declared.Part.{Part}
use Rattle.path.specs.declared.Part.TheVariants.{Member, Element}
use Rattle.path.specs.Path.{first_part}
use Rattle.path.proofs.Texts.{parts_meant}
use Rattle.path.proofs.Shorter.{shorter}
use Rattle.bind.specs.declared.reading.Entry.{Entry}
use Rattle.bind.specs.declared.steps.Here.{Here}
use Rattle.bind.specs.Reading.{behind, own_of, name_of, type_mark, type_entry}
use Rattle.bind.specs.Binding.{Finder, unit, dimensions, moved, member_of, at_member, to_member, from_lower, index_of, at_element, to_element, to_part, says_again, at_type, to_type, rests, settled, along}
use Rattle.bind.specs.Adding.{bits, items_of, NoneNamed, other, IsAbove, from_0, over_0, below_0, minus_0}
use Rattle.bind.proofs.Adding.{first_is, plain_is, indexed}
use Rattle.bind.proofs.Along.{rests_here, one_type, at_end as along_ends, one_part}
use Rattle.bindings_meant.specs.Longest.{Answers}
use Rattle.bindings_meant.specs.Leads.{Spot, InGroup, HasOffset, ToMember, ToElement, ToPart, SaysAgain, Asks, Rests, dimensions as has_dimensions, members, ToType, Settles, Leads}
use Rattle.bindings_meant.specs.Leads as leads
use Rattle.bindings_meant.proofs.Nesting.{behind_all, behind_none, behind_row}

abbrev pub spot_of : Here → Spot
spot_of h = record { entry = h.entry; bits = bits h; size = h.size; left = h.left.now }

pub spot_is : (s t : Spot) → s.entry ≡ t.entry → s.bits ≡ t.bits → s.size ≡ t.size → s.left ≡ t.left → s ≡ t
spot_is s t e b z l = λ i. record { entry = e i; bits = b i; size = z i; left = l i }

-- where the code has led, told as a spot
pub record Arrives (r : Result Here Refusal) (t : Spot) : Type 0 where
  pub there : Here
  pub is : r ≡ Ok there
  pub spot : spot_of there ≡ t
  pub bit : there.bit < 8

arrives : (r q : Result Here Refusal) (t : Spot) → r ≡ q → Arrives q t → Arrives r t
arrives r q t e a = record { there = a.there; is = e ∙ a.is; spot = a.spot; bit = a.bit }

-- so many bits further on
record Went (here : Here) (e : Entry) (more size : ℕ) (left : Bor (List ℕ)) (there : Here) : Type 0 where
  adds : bits there ≡ bits here + more
  in_group : InGroup (bits there)
  entry : there.entry ≡ e
  size_is : there.size ≡ size
  left_is : there.left ≡ left
  bit : there.bit < 8

went : (here : Here) (e : Entry) (more size : ℕ) (left : Bor (List ℕ)) (there : Here) → moved here e more size left ≡ Ok there → Went here e more size left there
unfolding moved
went here e more size left there h = by (nat_lt 4294967295 (to / 8)) refl h
  where
    to : ℕ
    to = 8 * here.offset + here.bit + more

    gone : Here
    gone = record { entry = e; offset = to / 8; bit = to % 8; size = size; left = left }

    by : (t : Bool) → nat_lt 4294967295 (to / 8) ≡ t → (if t then Err (OffsetTooLarge (to / 8)) else Ok gone) ≡ Ok there → Went here e more size left there
    by true q k = absurd (grind arith)
    by false q k =
        let is : gone ≡ there = cc in
        let small : to / 8 ≤ 4294967295 = ltb-false 4294967295 (to / 8) q in
        let in_bits : bits gone ≡ to = div-add-mod to 8 in
        let low : to % 8 < 8 = omega arith in
        subst (Went here e more size left) is record { adds = in_bits; in_group = omega (arith, small, low); entry = refl; size_is = refl; left_is = refl; bit = low }

goes : (here : Here) (e : Entry) (more size : ℕ) (left : Bor (List ℕ)) → InGroup (bits here + more) → (there : Here) × ((moved here e more size left ≡ Ok there) × Went here e more size left there)
unfolding moved
goes here e more size left fits =
    let to : ℕ = 8 * here.offset + here.bit + more in
    let gone : Here = record { entry = e; offset = to / 8; bit = to % 8; size = size; left = left } in
    let small : to / 8 ≤ 4294967295 = omega (arith, fits) in
    let is : moved here e more size left ≡ Ok gone = ap (λ (t : Bool). if t then Err (OffsetTooLarge (to / 8)) else Ok gone) (le-ltb 4294967295 (to / 8) small) in
    (gone, (is, went here e more size left gone is))

-- of some sub-items the first of a name
found_first : (name : List ℕ) (n : ℕ) (s : Bor (List ℕ)) (end : ℕ) (before : List (Bor (List ℕ))) (item : Bor (List ℕ)) (later : List (Bor (List ℕ)))
    → items_of n s ≡ before ++ (item ∷ later) → NoneNamed name before → SameLetters (name_of item).now name → member_of name n s end ≡ Some (type_entry item end)
unfolding member_of items_of
found_first name zero s end before item later e first same =
    let long : 0 ≡ length (before ++ (item ∷ later)) = ap (λ (l : List (Bor (List ℕ))). length l) e in
    absurd (omega (arith, long, length-append before (item ∷ later)))
found_first name (suc n) s end [] item later e first same =
    let is : s ≡ item = cc in
    let yes : same_name (name_of s).now name ≡ true = ap (λ (x : Bor (List ℕ)). same_name (name_of x).now name) is ∙ (same_by_letters (name_of item).now name).1 same in
    ap (λ (t : Bool). if t then Some (type_entry s end) else member_of name n (behind s (le4 s.now 0)) end) yes ∙ ap (λ (x : Bor (List ℕ)). Some (type_entry x end)) is
found_first name (suc n) s end (b ∷ before) item later e (other not more) same =
    let is : s ≡ b = cc in
    let on : items_of n (behind s (le4 s.now 0)) ≡ before ++ (item ∷ later) = cc in
    let rest = found_first name n (behind s (le4 s.now 0)) end before item later on more same in
    by (same_name (name_of s).now name) refl is rest
  where
    by : (t : Bool) → same_name (name_of s).now name ≡ t → s ≡ b → member_of name n (behind s (le4 s.now 0)) end ≡ Some (type_entry item end)
        → (if t then Some (type_entry s end) else member_of name n (behind s (le4 s.now 0)) end) ≡ Some (type_entry item end)
    by true q is rest = absurd (not (subst (λ (x : Bor (List ℕ)). SameLetters (name_of x).now name) is ((same_by_letters (name_of s).now name).0 q)))
    by false q is rest = rest

offset_is : (own : List ℕ) → type_mark (le4 own 28) ≡ 0 → HasOffset own
offset_is own h = let p = plain_is (le4 own 28) h in record { reference = p.reference; property = p.property; static_member = p.static_member }

unmarked : (own : List ℕ) → HasOffset own → type_mark (le4 own 28) ≡ 0
unmarked own h = rw (h.reference, h.property, h.static_member) refl

no_left : (here : Here) → nat_lt 7 (length here.left.now) ≡ false → length here.left.now < 8
no_left here q = let l : length here.left.now ≤ 7 = ltb-false 7 (length here.left.now) q in omega (arith, l)

-- a member
at_item : (here there : Here) (name : List ℕ) (before : List (Bor (List ℕ))) (item : Bor (List ℕ)) (later : List (Bor (List ℕ))) → length here.left.now < 8
    → items_of here.entry.items.count here.entry.items.bytes ≡ before ++ (item ∷ later) → NoneNamed name before → SameLetters (name_of item).now name
    → let e : Entry = type_entry item here.entry.end in e.mark ≡ 0 → moved here e (e.offset * unit e) e.size e.arrays ≡ Ok there → ToMember (spot_of here) name (spot_of there) × (there.bit < 8)
unfolding type_entry
at_item here there name before item later d among first same mark h =
    let e : Entry = type_entry item here.entry.end in
    let w = went here e (e.offset * unit e) e.size e.arrays there h in (
      record {
        no_dimension = d;
        before = before;
        item = item;
        later = later;
        among = among;
        first = first;
        same = same;
        has_offset = offset_is (own_of item).now mark;
        entry = w.entry;
        bits = w.adds;
        in_group = w.in_group;
        size = w.size_is;
        left = ap (λ (l : Bor (List ℕ)). l.now) w.left_is ∙ ap (λ (x : Entry). x.arrays.now) (sym w.entry);
      },
      w.bit,
    )

member_leads : (here there : Here) (name : List ℕ) (at : ℕ) → to_member here name at ≡ Ok there → ToMember (spot_of here) name (spot_of there) × (there.bit < 8)
unfolding to_member at_member
member_leads here there name at h = by (nat_lt 7 (length here.left.now)) refl h
  where
    found : Option Entry
    found = member_of name here.entry.items.count here.entry.items.bytes here.entry.end

    marked : (e : Entry) → found ≡ Some e → length here.left.now < 8 → (t : Bool) → (e.mark == 0) ≡ t → (if t then moved here e (e.offset * unit e) e.size e.arrays else Err (NoOffset at e.mark)) ≡ Ok there → ToMember (spot_of here) name (spot_of there) × (there.bit < 8)
    marked e f d true q k =
        let g = first_is name here.entry.items.count here.entry.items.bytes here.entry.end e f in
        let mark : (type_entry g.item here.entry.end).mark ≡ 0 = ap (λ (x : Entry). x.mark) g.is ∙ eqb-true e.mark 0 q in
        at_item here there name g.before g.item g.later d g.among g.first ((same_by_letters (name_of g.item).now name).0 g.same) mark
        (subst (λ (x : Entry). moved here x (x.offset * unit x) x.size x.arrays ≡ Ok there) (sym g.is) k)
    marked e f d false q k = absurd (grind arith)

    on : (o : Option Entry) → found ≡ o → length here.left.now < 8 → at_member here at o ≡ Ok there → ToMember (spot_of here) name (spot_of there) × (there.bit < 8)
    on None f d k = absurd (grind arith)
    on (Some e) f d k = marked e f d (e.mark == 0) refl k

    by : (t : Bool) → nat_lt 7 (length here.left.now) ≡ t → (if t then Err (WrongDimensions at (dimensions here.entry)) else at_member here at found) ≡ Ok there → ToMember (spot_of here) name (spot_of there) × (there.bit < 8)
    by true q k = absurd (grind arith)
    by false q k = on found refl (no_left here q) k

member_back : (here : Here) (t : Spot) (name : List ℕ) (at : ℕ) → ToMember (spot_of here) name t → Arrives (to_member here name at) t
unfolding to_member at_member type_entry
member_back here t name at m =
    let e : Entry = type_entry m.item here.entry.end in
    let few : length here.left.now ≤ 7 = omega (arith, m.no_dimension) in
    let found : member_of name here.entry.items.count here.entry.items.bytes here.entry.end ≡ Some e = found_first name here.entry.items.count here.entry.items.bytes here.entry.end m.before m.item m.later m.among m.first m.same in
    let mark : (e.mark == 0) ≡ true = eq-eqb e.mark 0 (unmarked (own_of m.item).now m.has_offset) in
    let g = goes here e (e.offset * unit e) e.size e.arrays (subst InGroup m.bits m.in_group) in
    record {
      there = g.0;
      is =
          ap (λ (t : Bool). if t then Err (WrongDimensions at (dimensions here.entry)) else at_member here at (member_of name here.entry.items.count here.entry.items.bytes here.entry.end)) (le-ltb 7 (length here.left.now) few)
          ∙ ap (at_member here at) found
          ∙ ap (λ (t : Bool). if t then moved here e (e.offset * unit e) e.size e.arrays else Err (NoOffset at e.mark)) mark
          ∙ g.1.0;
      spot = spot_is (spot_of g.0) t (g.1.1.entry ∙ sym m.entry) (g.1.1.adds ∙ sym m.bits) (g.1.1.size_is ∙ sym m.size)
          (ap (λ (l : Bor (List ℕ)). l.now) g.1.1.left_is ∙ ap (λ (x : Entry). x.arrays.now) (sym m.entry) ∙ sym m.left);
      bit = g.1.1.bit;
    }

-- an element
same_lower : (n : Subscript) (lower elements : ℕ) → index_of n lower elements ≡ index_of n (lower % 4294967296) elements
unfolding index_of
same_lower n lower elements =
    let low : (lower + 2147483648) % 4294967296 ≡ (lower % 4294967296 + 2147483648) % 4294967296 = omega arith in
    ap (λ (first : ℕ).
    let from : ℕ → Option ℕ = λ number. if nat_lt number first then None else if nat_lt (number - first) elements then Some (number - first) else None in
    if n.negative then (if nat_lt 2147483648 n.magnitude then None else from (2147483648 - n.magnitude)) else if nat_lt 8589934591 n.magnitude then None else from (2147483648 + n.magnitude)) low

is_told : (negative : Bool) (m lower elements index : ℕ) → index_of (record { negative = negative; magnitude = m }) lower elements ≡ Some index → m < 8589934592
unfolding index_of
is_told true m lower elements index h = by (nat_lt 2147483648 m) refl h
  where
    by : (t : Bool) → nat_lt 2147483648 m ≡ t → (if t then None else from_lower (2147483648 - m) lower elements) ≡ Some index → m < 8589934592
    by true q k = absurd (grind arith)
    by false q k = let l : m ≤ 2147483648 = ltb-false 2147483648 m q in omega (arith, l)
is_told false m lower elements index h = by (nat_lt 8589934591 m) refl h
  where
    by : (t : Bool) → nat_lt 8589934591 m ≡ t → (if t then None else from_lower (2147483648 + m) lower elements) ≡ Some index → m < 8589934592
    by true q k = absurd (grind arith)
    by false q k = let l : m ≤ 8589934591 = ltb-false 8589934591 m q in omega (arith, l)

from_back : (number lower elements index : ℕ) → number ≡ (lower + 2147483648) % 4294967296 + index → index < elements → from_lower number lower elements ≡ Some index
from_back number lower elements index e h =
    let first : ℕ = (lower + 2147483648) % 4294967296 in
    let over : first ≤ number = omega (arith, e) in
    let more : number - first ≡ index = omega (arith, e) in
    let below : number - first < elements = omega (arith, more, h) in
    ap (λ (t : Bool). if t then None else if nat_lt (number - first) elements then Some (number - first) else None) (le-ltb number first over)
    ∙ ap (λ (t : Bool). if t then Some (number - first) else None) (lt-ltb (number - first) elements below)
    ∙ ap (λ (k : ℕ). Some k) more

above_back : (n : Subscript) (lower elements index : ℕ) → lower < 4294967296 → index < elements → n.magnitude < 8589934592 → IsAbove lower index n → index_of n lower elements ≡ Some index
unfolding index_of
above_back n lower elements index l h s (from_0 {m = m} low e) =
    let small : m ≤ 8589934591 = omega (arith, s) in
    ap (λ (t : Bool). if t then None else from_lower (2147483648 + m) lower elements) (le-ltb 8589934591 m small)
    ∙ from_back (2147483648 + m) lower elements index (omega (arith, low, e)) h
above_back n lower elements index l h s (over_0 {m = m} low e) =
    let small : m ≤ 8589934591 = omega (arith, s) in
    ap (λ (t : Bool). if t then None else from_lower (2147483648 + m) lower elements) (le-ltb 8589934591 m small)
    ∙ from_back (2147483648 + m) lower elements index (omega (arith, l, low, e)) h
above_back n lower elements index l h s (below_0 {m = m} low e) =
    let small : m ≤ 2147483648 = omega (arith, low, e) in
    ap (λ (t : Bool). if t then None else from_lower (2147483648 - m) lower elements) (le-ltb 2147483648 m small)
    ∙ from_back (2147483648 - m) lower elements index (omega (arith, l, low, e)) h
above_back n lower elements index l h s (minus_0 {m = m} low first e) =
    let small : m ≤ 2147483648 = omega (arith, e) in
    ap (λ (t : Bool). if t then None else from_lower (2147483648 - m) lower elements) (le-ltb 2147483648 m small)
    ∙ from_back (2147483648 - m) lower elements index (omega (arith, low, first, e)) h

element_leads : (here there : Here) (n : Subscript) (at : ℕ) → to_element here n at ≡ Ok there → ToElement (spot_of here) n (spot_of there) × (there.bit < 8)
unfolding to_element at_element
element_leads here there n at h = by (nat_lt (length here.left.now) 8) refl h
  where
    elements : ℕ
    elements = le4 here.left.now 4

    found : Option ℕ
    found = index_of n (le4 here.left.now 0) elements

    on : (o : Option ℕ) → found ≡ o → 8 ≤ length here.left.now → at_element here at o ≡ Ok there → ToElement (spot_of here) n (spot_of there) × (there.bit < 8)
    on None f d k = absurd (grind arith)
    on (Some index) f d k =
        let size : ℕ = here.size / elements in
        let w = went here here.entry (index * size * unit here.entry) size (behind here.left 8) there k in
        let i = indexed n.negative n.magnitude (le4 here.left.now 0 % 4294967296) elements index (sym (same_lower n (le4 here.left.now 0) elements) ∙ f) in
        let low : le4 here.left.now 0 % 4294967296 < 4294967296 = omega arith in
        let some : 7 < length here.left.now = omega (arith, d) in (
          record {
            dimension = d;
            index = index;
            inside = i.below;
            told = is_told n.negative n.magnitude (le4 here.left.now 0) elements index f;
            above = i.above low;
            entry = w.entry;
            size = w.size_is;
            bits = w.adds ∙ ap (λ (x : ℕ). bits here + index * x * unit here.entry) (sym w.size_is);
            in_group = w.in_group;
            left = ap (λ (l : Bor (List ℕ)). l.now) w.left_is ∙ behind_row here.left some;
          },
          w.bit,
        )

    by : (t : Bool) → nat_lt (length here.left.now) 8 ≡ t → (if t then Err (WrongDimensions at (dimensions here.entry)) else at_element here at found) ≡ Ok there → ToElement (spot_of here) n (spot_of there) × (there.bit < 8)
    by true q k = absurd (grind arith)
    by false q k = on found refl (ltb-false (length here.left.now) 8 q) k

element_back : (here : Here) (t : Spot) (n : Subscript) (at : ℕ) → ToElement (spot_of here) n t → Arrives (to_element here n at) t
unfolding to_element at_element
element_back here t n at m =
    let lower : ℕ = le4 here.left.now 0 in
    let elements : ℕ = le4 here.left.now 4 in
    let size : ℕ = here.size / elements in
    let low : lower % 4294967296 < 4294967296 = omega arith in
    let found : index_of n lower elements ≡ Some m.index = same_lower n lower elements ∙ above_back n (lower % 4294967296) elements m.index low m.inside m.told m.above in
    let adds : t.bits ≡ bits here + m.index * size * unit here.entry = m.bits ∙ ap (λ (x : ℕ). bits here + m.index * x * unit here.entry) m.size in
    let g = goes here here.entry (m.index * size * unit here.entry) size (behind here.left 8) (subst InGroup adds m.in_group) in
    let some : 7 < length here.left.now = omega (arith, m.dimension) in
    record {
      there = g.0;
      is =
          ap (λ (t : Bool). if t then Err (WrongDimensions at (dimensions here.entry)) else at_element here at (index_of n lower elements)) (le-ltb (length here.left.now) 8 m.dimension)
          ∙ ap (at_element here at) found
          ∙ g.1.0;
      spot = spot_is (spot_of g.0) t (g.1.1.entry ∙ sym m.entry) (g.1.1.adds ∙ sym adds) (g.1.1.size_is ∙ sym m.size)
          (ap (λ (l : Bor (List ℕ)). l.now) g.1.1.left_is ∙ behind_row here.left some ∙ sym m.left);
      bit = g.1.1.bit;
    }

part_leads : (here there : Here) (p : Part) (at : ℕ) → to_part here p at ≡ Ok there → ToPart (spot_of here) p (spot_of there) × (there.bit < 8)
unfolding to_part
part_leads here there (Member name) at h = let m = member_leads here there name.now at h in (leads.ToPart.to_member m.0, m.1)
part_leads here there (Element n) at h = let m = element_leads here there n at h in (leads.ToPart.to_element m.0, m.1)

part_back : (here : Here) (s t : Spot) (p : Part) (at : ℕ) → spot_of here ≡ s → ToPart s p t → Arrives (to_part here p at) t
unfolding to_part
part_back here s t p at e (leads.ToPart.to_member {name = name} m) = member_back here t name.now at (subst (λ (x : Spot). ToMember x name.now t) (sym e) m)
part_back here s t p at e (leads.ToPart.to_element {n = n} m) = element_back here t n at (subst (λ (x : Spot). ToElement x n t) (sym e) m)

-- a data type that says again
says : (e named : Entry) → says_again e named ≡ true → SaysAgain e named
unfolding says_again
says e named h = by (length e.arrays.now == 0) (named.size == e.size) (pointwise nat_eq named.arrays.now e.arrays.now) refl refl refl h
  where
    by : (p q r : Bool) → (length e.arrays.now == 0) ≡ p → (named.size == e.size) ≡ q → pointwise nat_eq named.arrays.now e.arrays.now ≡ r → (if p then false else if q then r else false) ≡ true → SaysAgain e named
    by true q r x y z k = absurd (not_both k refl)
    by false false r x y z k = absurd (not_both k refl)
    by false true false x y z k = absurd (not_both k refl)
    by false true true x y z k =
        record {
          some = some (length e.arrays.now) x;
          size = eqb-true named.size e.size y;
          arrays = same_text named.arrays.now e.arrays.now (sym z);
        }
      where
        some : (n : ℕ) → (n == 0) ≡ false → 0 < n
        some zero q = absurd (not_both refl q)
        some (suc n) q = omega arith

said : (e named : Entry) → SaysAgain e named → says_again e named ≡ true
unfolding says_again
said e named s = by (pointwise nat_eq named.arrays.now e.arrays.now) refl
  where
    by : (r : Bool) → pointwise nat_eq named.arrays.now e.arrays.now ≡ r → (if length e.arrays.now == 0 then false else if named.size == e.size then pointwise nat_eq named.arrays.now e.arrays.now else false) ≡ true
    by true q =
        let some : (length e.arrays.now == 0) ≡ false = ne_eqb (length e.arrays.now) 0 (omega (arith, s.some)) in
        ap (λ (t : Bool). if t then false else if named.size == e.size then pointwise nat_eq named.arrays.now e.arrays.now else false) some
        ∙ ap (λ (t : Bool). if t then pointwise nat_eq named.arrays.now e.arrays.now else false) (eq-eqb named.size e.size s.size)
        ∙ q
    by false q = absurd (other_text named.arrays.now e.arrays.now (sym q) s.arrays)

-- the dimensions of a data type that takes an entry's place
left_of : Entry → Entry → Bor (List ℕ)
left_of e named = behind named.arrays (if says_again e named then length named.arrays.now else 0)

asks_is : (e named : Entry) → Asks e named (left_of e named).now
unfolding left_of
asks_is e named = by (says_again e named) refl
  where
    by : (t : Bool) → says_again e named ≡ t → Asks e named (behind named.arrays (if t then length named.arrays.now else 0)).now
    by true q = leads.Asks.again (says e named q) (behind_all named.arrays)
    by false q = leads.Asks.anew (λ s. not_both (said e named s) q) (behind_none named.arrays)

asks_back : (e named : Entry) (left : List ℕ) → Asks e named left → (left_of e named).now ≡ left
unfolding left_of
asks_back e named left (leads.Asks.again s l) = ap (λ (t : Bool). (behind named.arrays (if t then length named.arrays.now else 0)).now) (said e named s) ∙ behind_all named.arrays ∙ sym l
asks_back e named left (leads.Asks.anew s l) = by (says_again e named) refl
  where
    by : (t : Bool) → says_again e named ≡ t → (behind named.arrays (if t then length named.arrays.now else 0)).now ≡ left
    by true q = absurd (s (says e named q))
    by false q = behind_none named.arrays ∙ sym l

rests_is : (here : Here) → rests here ≡ true → Rests (spot_of here)
rests_is here h = by (nat_lt 7 (length here.left.now)) (nat_lt 0 here.entry.items.count) refl refl h
  where
    by : (a b : Bool) → nat_lt 7 (length here.left.now) ≡ a → nat_lt 0 here.entry.items.count ≡ b → (a || b) ≡ true → Rests (spot_of here)
    by true b p q k = let l : 7 < length here.left.now = ltb-true 7 (length here.left.now) p in has_dimensions (omega (arith, l))
    by false true p q k = members (ltb-true 0 here.entry.items.count q)
    by false false p q k = absurd (not_both k refl)

record Passes (here : Here) : Type 0 where
  no_dimension : length here.left.now < 8
  no_member : here.entry.items.count ≡ 0

passes_is : (here : Here) → rests here ≡ false → Passes here
passes_is here h = by (nat_lt 7 (length here.left.now)) (nat_lt 0 here.entry.items.count) refl refl h
  where
    by : (a b : Bool) → nat_lt 7 (length here.left.now) ≡ a → nat_lt 0 here.entry.items.count ≡ b → (a || b) ≡ false → Passes here
    by true b p q k = absurd (not_both refl k)
    by false true p q k = absurd (not_both refl k)
    by false false p q k = let none : here.entry.items.count ≤ 0 = ltb-false 0 here.entry.items.count q in record { no_dimension = no_left here p; no_member = omega (arith, none) }

rested : (here : Here) → Rests (spot_of here) → rests here ≡ true
rested here r = by (rests here) refl r
  where
    by : (t : Bool) → rests here ≡ t → Rests (spot_of here) → t ≡ true
    by true q s = refl
    by false q (has_dimensions l) = let p = passes_is here q in absurd (omega (arith, p.no_dimension, l))
    by false q (members l) = let p = passes_is here q in absurd (omega (arith, p.no_member, l))

passed : (here : Here) → length here.left.now < 8 → here.entry.items.count ≡ 0 → rests here ≡ false
passed here d m = by (rests here) refl
  where
    no : Rests (spot_of here) → ⊥
    no (has_dimensions l) = omega (arith, d, l)
    no (members l) = omega (arith, m, l)

    by : (t : Bool) → rests here ≡ t → t ≡ false
    by true q = absurd (no (rests_is here q))
    by false q = refl

module _ (find : Finder) (types : Bor (List ℕ)) where
  abbrev Named : List ℕ → ℕ → Type 0
  Named = Answers find

  -- a data type in an entry's place
  at_data_type : (here next : Here) (start at : ℕ) → Passes here → here.entry.pointer ≡ 0 → find here.entry.type_name.now ≡ Ok start → at_type here types start at ≡ Ok next → ToType Named types (spot_of here) (spot_of next) × (next.bit ≡ here.bit)
  unfolding at_type type_entry left_of
  at_data_type here next start at p z f h = by (e.mark == 0) refl h
    where
      e : Entry
      e = type_entry (behind types start) (length types.now)

      gone : Here
      gone = record here { entry = e; size = e.size; left = left_of here.entry e }

      by : (t : Bool) → (e.mark == 0) ≡ t → (if t then Ok gone else Err (NoOffset at e.mark)) ≡ Ok next → ToType Named types (spot_of here) (spot_of next) × (next.bit ≡ here.bit)
      by true q k =
          let is : gone ≡ next = cc in
          subst (λ (x : Here). ToType Named types (spot_of here) (spot_of x) × (x.bit ≡ here.bit)) is (
            record {
              no_dimension = p.no_dimension;
              no_member = p.no_member;
              no_pointer = z;
              start = start;
              named = f;
              has_offset = offset_is (own_of (behind types start)).now (eqb-true e.mark 0 q);
              entry = refl;
              bits = refl;
              size = refl;
              asks = asks_is here.entry e;
            },
            refl,
          )
      by false q k = absurd (grind arith)

  type_leads : (here next : Here) (at : ℕ) → Passes here → here.entry.pointer ≡ 0 → to_type find types here at ≡ Ok next → ToType Named types (spot_of here) (spot_of next) × (next.bit ≡ here.bit)
  unfolding to_type
  type_leads here next at p z h = by (find here.entry.type_name.now) refl h
    where
      by : (f : Result ℕ Refusal) → find here.entry.type_name.now ≡ f → outcome f (λ start. at_type here types start at) (λ why. Err (NoSuchType at)) ≡ Ok next → ToType Named types (spot_of here) (spot_of next) × (next.bit ≡ here.bit)
      by (Ok start) f k = at_data_type here next start at p z f k
      by (Err why) f k = absurd (grind arith)

  type_back : (here : Here) (t : Spot) (at : ℕ) → here.bit < 8 → ToType Named types (spot_of here) t → Arrives (to_type find types here at) t
  unfolding to_type at_type type_entry left_of
  type_back here t at b m =
      let e : Entry = type_entry (behind types m.start) (length types.now) in
      let gone : Here = record here { entry = e; size = e.size; left = left_of here.entry e } in
      let mark : (e.mark == 0) ≡ true = eq-eqb e.mark 0 (unmarked (own_of (behind types m.start)).now m.has_offset) in
      record {
        there = gone;
        is =
            ap (λ (f : Result ℕ Refusal). outcome f (λ start. at_type here types start at) (λ why. Err (NoSuchType at))) m.named
            ∙ ap (λ (t : Bool). if t then Ok gone else Err (NoOffset at e.mark)) mark;
        spot = spot_is (spot_of gone) t (sym m.entry) (sym m.bits) (sym m.size) (asks_back here.entry e t.left (subst (λ (x : Entry). Asks here.entry x t.left) m.entry m.asks));
        bit = b;
      }

  settles_is : (most : ℕ) (here there : Here) (at : ℕ) → settled find types most here at ≡ Ok there → Settles Named types most (spot_of here) (spot_of there) × (there.bit ≡ here.bit)
  unfolding settled
  settles_is zero here there at h = by (rests here) (here.entry.pointer == 0) refl h
    where
      by : (a p : Bool) → rests here ≡ a → (if a then Ok here else if p then Err (TooManyAliases at) else Err (NoOffset at here.entry.pointer)) ≡ Ok there
          → Settles Named types 0 (spot_of here) (spot_of there) × (there.bit ≡ here.bit)
      by true p q k =
          let is : here ≡ there = cc in
          subst (λ (x : Here). Settles Named types 0 (spot_of here) (spot_of x) × (x.bit ≡ here.bit)) is (leads.Settles.rests (rests_is here q), refl)
      by false true q k = absurd (grind arith)
      by false false q k = absurd (grind arith)
  settles_is (suc most) here there at h = by (λ next. settles_is most next there at) (rests here) (here.entry.pointer == 0) refl refl h
    where
      by : ((next : Here) → settled find types most next at ≡ Ok there → Settles Named types most (spot_of next) (spot_of there) × (there.bit ≡ next.bit)) → (a p : Bool) → rests here ≡ a → (here.entry.pointer == 0) ≡ p
          → (if a then Ok here else if p then and_then (to_type find types here at) (λ next. settled find types most next at) else Err (NoOffset at here.entry.pointer)) ≡ Ok there
          → Settles Named types (suc most) (spot_of here) (spot_of there) × (there.bit ≡ here.bit)
      by more true p q z k =
          let is : here ≡ there = cc in
          subst (λ (x : Here). Settles Named types (suc most) (spot_of here) (spot_of x) × (x.bit ≡ here.bit)) is (leads.Settles.rests (rests_is here q), refl)
      by more false true q z k =
          let b = both_passed (to_type find types here at) k in
          let m = type_leads here b.0 at (passes_is here q) (eqb-true here.entry.pointer 0 z) b.1.0 in
          let s = more b.0 b.1.1 in
          (leads.Settles.through m.0 s.0, s.1 ∙ m.1)
      by more false false q z k = absurd (grind arith)

  settles_back : (most : ℕ) (here : Here) (s t : Spot) (at : ℕ) → here.bit < 8 → spot_of here ≡ s → Settles Named types most s t → Arrives (settled find types most here at) t
  settles_back most here s t at b e (leads.Settles.rests r) =
      record { there = here; is = rests_here find types most here at (rested here (subst Rests (sym e) r)); spot = e; bit = b }
  settles_back most here s t at b e (leads.Settles.through {most = fewer} {next = next} m more) =
      let own : ToType Named types (spot_of here) next = subst (λ (x : Spot). ToType Named types x next) (sym e) m in
      let a = type_back here next at b own in
      let z = settles_back fewer a.there next t at a.bit a.spot more in
      let one : settled find types (suc fewer) here at ≡ and_then (to_type find types here at) (λ next. settled find types fewer next at) =
      settled_step fewer here at (passed here own.no_dimension own.no_member) own.no_pointer in
      arrives (settled find types (suc fewer) here at) (settled find types fewer a.there at) t (one ∙ ap (λ (r : Result Here Refusal). and_then r (λ next. settled find types fewer next at)) a.is) z
    where
      settled_step : (n : ℕ) (here : Here) (at : ℕ) → rests here ≡ false → here.entry.pointer ≡ 0 → settled find types (suc n) here at ≡ and_then (to_type find types here at) (λ next. settled find types n next at)
      settled_step n here at h z =
          let e : suc n - 1 ≡ n = omega arith in
          one_type find types (suc n) here at h z (omega arith) ∙ ap (λ (k : ℕ). and_then (to_type find types here at) (λ next. settled find types k next at)) e

  module _ (long : ℕ) where
    leads_is : (n : ℕ) (here there : Here) (text : Bor (List ℕ)) → here.bit < 8 → length text.now ≤ n → along find types long n here text ≡ Ok there → Leads Named types (spot_of here) text (spot_of there) × (there.bit < 8)
    unfolding along
    leads_is zero here there text b l h =
        let is : here ≡ there = cc in
        subst (λ (x : Here). Leads Named types (spot_of here) text (spot_of x) × (x.bit < 8)) is (leads.Leads.at_end (no_text text.now l), b)
      where
        no_text : (s : List ℕ) → length s ≤ 0 → s ≡ []
        no_text [] l = refl
        no_text (x ∷ s) l = absurd (omega (arith, l))
    leads_is (suc n) here there text b l h = by (λ next rest. leads_is n next there rest) (length text.now == 0) refl h
      where
        at : ℕ
        at = long + 1 - length text.now

        no_text : (s : List ℕ) → (length s == 0) ≡ true → s ≡ []
        no_text [] l = refl
        no_text (x ∷ s) l = let e : length (x ∷ s) ≡ 0 = eqb-true (length (x ∷ s)) 0 l in absurd (omega (arith, e))

        on : ((next : Here) (rest : Bor (List ℕ)) → next.bit < 8 → length rest.now ≤ n → along find types long n next rest ≡ Ok there → Leads Named types (spot_of next) rest (spot_of there) × (there.bit < 8)) → (f : Result Split ℕ) → first_part text ≡ f
            → outcome f (λ p. and_then (settled find types most_aliases here at) (λ next. and_then (to_part next p.part at) (λ last. along find types long n last p.rest))) (λ left. Err (BadPath (long - left))) ≡ Ok there
            → Leads Named types (spot_of here) text (spot_of there) × (there.bit < 8)
        on more (Err left) q k = absurd (grind arith)
        on more (Ok p) q k =
            let c = both_passed (settled find types most_aliases here at) k in
            let d = both_passed (to_part c.0 p.part at) c.1.1 in
            let s = settles_is most_aliases here c.0 at c.1.0 in
            let m = part_leads c.0 d.0 p.part at d.1.0 in
            let z = more d.0 p.rest m.1 (omega (arith, l, shorter text p q)) d.1.1 in
            (leads.Leads.on ((parts_meant text p).0 q) s.0 m.0 z.0, z.1)

        by : ((next : Here) (rest : Bor (List ℕ)) → next.bit < 8 → length rest.now ≤ n → along find types long n next rest ≡ Ok there → Leads Named types (spot_of next) rest (spot_of there) × (there.bit < 8)) → (t : Bool) → (length text.now == 0) ≡ t
            → (if t then Ok here else outcome (first_part text) (λ p. and_then (settled find types most_aliases here at) (λ next. and_then (to_part next p.part at) (λ last. along find types long n last p.rest))) (λ left. Err (BadPath (long - left)))) ≡ Ok there
            → Leads Named types (spot_of here) text (spot_of there) × (there.bit < 8)
        by more true q k =
            let is : here ≡ there = cc in
            subst (λ (x : Here). Leads Named types (spot_of here) text (spot_of x) × (x.bit < 8)) is (leads.Leads.at_end (no_text text.now q), b)
        by more false q k = on more (first_part text) refl k

    pub along_leads : (here there : Here) (text : Bor (List ℕ)) → here.bit < 8 → along find types long (length text.now) here text ≡ Ok there → Leads Named types (spot_of here) text (spot_of there) × (there.bit < 8)
    along_leads here there text b h = leads_is (length text.now) here there text b (omega arith) h

    pub along_back : (here : Here) (s t : Spot) (text : Bor (List ℕ)) → here.bit < 8 → spot_of here ≡ s → Leads Named types s text t → Arrives (along find types long (length text.now) here text) t
    along_back here s t text b e (leads.Leads.at_end done) =
        let empty : length text.now ≡ 0 = ap (λ (l : List ℕ). length l) done in
        record { there = here; is = along_ends find types long (length text.now) here text empty; spot = e; bit = b }
    along_back here s t text b e (leads.Leads.on {next = next} {there = there} {p = p} q settles part more) =
        let at : ℕ = long + 1 - length text.now in
        let first : first_part text ≡ Ok p = (parts_meant text p).1 q in
        let some : 0 < length text.now = omega (arith, shorter text p first) in
        let x = settles_back 16 here s next at b e settles in
        let y = part_back x.there next there p.part at x.spot part in
        let z = along_back y.there there t p.rest y.bit y.spot more in
        arrives (along find types long (length text.now) here text) (along find types long (length p.rest.now) y.there p.rest) t
        (one_part find types long here text some
        ∙ ap (λ (f : Result Split ℕ). outcome f (λ p. and_then (settled find types most_aliases here at) (λ next. and_then (to_part next p.part at) (λ there. along find types long (length p.rest.now) there p.rest))) (λ left. Err (BadPath (long - left)))) first
        ∙ ap (λ (r : Result Here Refusal). and_then r (λ next. and_then (to_part next p.part at) (λ there. along find types long (length p.rest.now) there p.rest))) x.is
        ∙ ap (λ (r : Result Here Refusal). and_then r (λ there. along find types long (length p.rest.now) there p.rest)) y.is)
        z

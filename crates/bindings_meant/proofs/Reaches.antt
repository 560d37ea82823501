-- A path has the address that it reaches, and no other: proved.
use Rattle.std.proofs.Common.{ℕ, zero, suc, ◌+◌, ◌-◌, ◌<◌, ◌≤◌, ◌≡◌, refl, sym, ap, subst, ◌∙◌, Bool, true, false, List, [], ◌∷◌, length, take, arith, Bor, if◌then◌else◌, eqb-true, eq-eqb}
use Rattle.std.specs.Prelude.{Result, Ok, Err, nat_lt, ◌==◌, ◌&&◌}
use Rattle.std.specs.List.{list_any}
use borrow.Author.Tests.{ltb-false, le-ltb}
use Rattle.le.specs.Le.{le2, has}
use Rattle.le.proofs.Laws.{not_both}
use Rattle.part.specs.Slice.{after}
use Rattle.part.specs.Outcome.{and_then}
use Rattle.part.proofs.Outcome.{both_passed}
use Rattle.refusal.specs.Refusal.{limit}
use Rattle.refusal.specs.declared.Mode.{Mode}
use Rattle.refusal.specs.declared.Refusal.{Refusal}
use Rattle.refusal.specs.declared.Refusal.TheVariants.{TooLarge, NoOffset, WrongDimensions}
use Rattle.entry.specs.Walk.{stands, steps}
use Rattle.symbol.specs.Symbol.{symbol_of}
use Rattle.data_type.specs.DataType.{type_of}
use Rattle.named.specs.Kinds.{symbol_places, field_places, symbol_told, type_told}
use Rattle.symbol_find.specs.Find as symbol_find
use Rattle.symbol_find.proofs.Meaning as symbols_meant
use Rattle.type_find.specs.Find as type_find
use Rattle.type_find.proofs.Meaning as types_meant
use Rattle.name_index.specs.Index.{Halves}
use Rattle.name_index.proofs.Meaning.{before_order, within_limit as small_index, same_halved_of}
use Rattle.bind.specs.declared.Address.{Address}
use Rattle.bind.specs.declared.Upload.{Upload}
use Rattle.bind.specs.declared.reading.Entry.{Entry}
use Rattle.bind.specs.declared.steps.Here.{Here}
use Rattle.bind.specs.Found.{symbol_found, type_found}
use Rattle.bind.proofs.Meaning.{found_meant}
use Rattle.bind.proofs.Along.{at_end}
use Rattle.bind.specs.Reading.{behind, own_of, symbol_mark, symbol_entry, symbol_group}
use Rattle.bind.specs.Binding.{Finder, dimensions, along, longest, start_at, below, told, from_symbol, within_limit, binding}
use Rattle.bindings_meant.specs.Longest.{Answers, NamesSymbol}
use Rattle.bindings_meant.proofs.Longest.{names_symbol, is_longest}
use Rattle.bindings_meant.specs.Leads.{Spot, ToType, Settles, Leads}
use Rattle.bindings_meant.specs.Leads as leads
use Rattle.bindings_meant.proofs.Leads.{spot_of, spot_is, Arrives, along_leads, along_back}
use Rattle.bindings_meant.specs.Reaches.{at_symbol, Whole, each, none, Tells, Reaches, IsIndexed, SymbolNamed, TypeNamed, BindingMeant}

small_is : (s : List ℕ) (u : Unit) → within_limit s ≡ Ok u → length s ≤ limit
small_is s u h = by (nat_lt limit (length s)) refl h
  where
    by : (t : Bool) → nat_lt limit (length s) ≡ t → (if t then Err (TooLarge (length s)) else Ok tt) ≡ Ok u → length s ≤ limit
    by true q k = absurd (grind arith)
    by false q k = ltb-false limit (length s) q

limit_is : (s : List ℕ) → length s ≤ limit → within_limit s ≡ Ok tt
limit_is s h = ap (λ (t : Bool). if t then Err (TooLarge (length s)) else Ok tt) (le-ltb limit (length s) h)

start_is : (symbols : Bor (List ℕ)) (at : ℕ) → spot_of (start_at (symbol_entry symbols at)) ≡ at_symbol symbols at
unfolding symbol_entry
start_is symbols at = spot_is (spot_of (start_at (symbol_entry symbols at))) (at_symbol symbols at) refl (omega arith) refl refl

record Clear (flags : ℕ) : Type 0 where
  bit : has flags 0x2 ≡ false
  reference : has flags 0x4 ≡ false

clear_is : (flags : ℕ) → symbol_mark flags ≡ 0 → Clear flags
clear_is flags h = by (has flags 0x2) (has flags 0x4) refl refl h
  where
    by : (a b : Bool) → has flags 0x2 ≡ a → has flags 0x4 ≡ b → ◌≡◌ {A = ℕ} (if a then 0x2 else if b then 0x4 else 0) 0 → Clear flags
    by true b p q k = absurd (omega (arith, k))
    by false true p q k = absurd (omega (arith, k))
    by false false p q k = record { bit = p; reference = q }

mark_is : (symbols : Bor (List ℕ)) (at : ℕ) → (symbol_entry symbols at).mark ≡ symbol_mark (le2 (own_of (behind symbols at)).now 20)
unfolding symbol_entry
mark_is symbols at = refl

clear_back : (flags : ℕ) → has flags 0x2 ≡ false → has flags 0x4 ≡ false → symbol_mark flags ≡ 0
clear_back flags a b = rw (a, b) refl

no_text : (s : List ℕ) → (length s == 0) ≡ true → s ≡ []
no_text [] l = refl
no_text (x ∷ s) l = let e : length (x ∷ s) ≡ 0 = eqb-true (length (x ∷ s)) 0 l in absurd (omega (arith, e))

module _ (find : Finder) (types : Bor (List ℕ)) (long : ℕ) (symbols : Bor (List ℕ)) (at : ℕ) (text : Bor (List ℕ)) where
  abbrev flags : ℕ
  flags = le2 (own_of (behind symbols at)).now 20

  record BelowIs (here : Here) : Type 0 where
    bit : 0 < length text.now → has flags 0x2 ≡ false
    reference : 0 < length text.now → has flags 0x4 ≡ false
    leads_there : Leads (Answers find) types (at_symbol symbols at) text (spot_of here)
    in_byte : here.bit < 8

  below_is : (here : Here) → below find types long (symbol_entry symbols at) text ≡ Ok here → BelowIs here
  unfolding below
  below_is here h = by (length text.now == 0) refl h
    where
      e : Entry
      e = symbol_entry symbols at

      on : (t : Bool) → (e.mark == 0) ≡ t → (if t then along find types long (length text.now) (start_at e) text else Err (NoOffset (long + 1 - length text.now) e.mark)) ≡ Ok here → BelowIs here
      on true q k =
          let clear = clear_is flags (sym (mark_is symbols at) ∙ eqb-true e.mark 0 q) in
          let l = along_leads find types long (start_at e) here text (omega arith) k in
          record { bit = λ s. clear.bit; reference = λ s. clear.reference; leads_there = subst (λ (x : Spot). Leads (Answers find) types x text (spot_of here)) (start_is symbols at) l.0; in_byte = l.1 }
      on false q k = absurd (grind arith)

      by : (t : Bool) → (length text.now == 0) ≡ t → (if t then Ok (start_at e) else if e.mark == 0 then along find types long (length text.now) (start_at e) text else Err (NoOffset (long + 1 - length text.now) e.mark)) ≡ Ok here → BelowIs here
      by true q k =
          let is : start_at e ≡ here = cc in
          let empty : length text.now ≡ 0 = eqb-true (length text.now) 0 q in
          subst BelowIs is
          record {
            bit = λ s. absurd (omega (arith, s, empty));
            reference = λ s. absurd (omega (arith, s, empty));
            leads_there = subst (λ (x : Spot). Leads (Answers find) types x text (spot_of (start_at e))) (start_is symbols at) (leads.Leads.at_end (no_text text.now q));
            in_byte = omega arith;
          }
      by false q k = on (e.mark == 0) refl k

  below_back : (t : Spot) → (0 < length text.now → has flags 0x2 ≡ false) → (0 < length text.now → has flags 0x4 ≡ false) → Leads (Answers find) types (at_symbol symbols at) text t → Arrives (below find types long (symbol_entry symbols at) text) t
  unfolding below
  below_back t bit reference l = by (length text.now == 0) refl
    where
      e : Entry
      e = symbol_entry symbols at

      there : Arrives (along find types long (length text.now) (start_at e) text) t
      there = along_back find types long (start_at e) (at_symbol symbols at) t text (omega arith) (start_is symbols at) l

      marked : (q : Bool) → (length text.now == 0) ≡ q → q ≡ false → (e.mark == 0) ≡ true
      marked q h f =
          let some : 0 < length text.now = more (length text.now) (h ∙ f) in
          eq-eqb e.mark 0 (mark_is symbols at ∙ clear_back flags (bit some) (reference some))
        where
          more : (n : ℕ) → (n == 0) ≡ false → 0 < n
          more zero k = absurd (not_both refl k)
          more (suc n) k = omega arith

      by : (q : Bool) → (length text.now == 0) ≡ q → Arrives (if q then Ok (start_at e) else if e.mark == 0 then along find types long (length text.now) (start_at e) text else Err (NoOffset (long + 1 - length text.now) e.mark)) t
      by true q =
          let empty : length text.now ≡ 0 = eqb-true (length text.now) 0 q in
          let none : along find types long (length text.now) (start_at e) text ≡ Ok (start_at e) = at_end find types long (length text.now) (start_at e) text empty in
          record { there = there.there; is = sym none ∙ there.is; spot = there.spot; bit = there.bit }
      by false q =
          record {
            there = there.there;
            is = ap (λ (m : Bool). if m then along find types long (length text.now) (start_at e) text else Err (NoOffset (long + 1 - length text.now) e.mark)) (marked false q refl) ∙ there.is;
            spot = there.spot;
            bit = there.bit;
          }

-- the end of the path
told_is : (long group : ℕ) (here : Here) (a : Address) → here.bit < 8 → told long group here ≡ Ok a → Whole (spot_of here) × Tells group (spot_of here) a
unfolding told
told_is long group here a b h = by (nat_lt 7 (length here.left.now)) (nat_lt (length here.left.now) (length here.entry.arrays.now)) refl refl h
  where
    gone : Address
    gone =
        record {
          group = record { 0 = group };
          offset = record { 0 = here.offset };
          bit = here.bit;
          size = here.size;
          size_in_bits = here.entry.in_bits;
          type_name = here.entry.type_name;
          place = here.entry.place;
        }

    tells : Tells group (spot_of here) gone
    tells = record { in_group = refl; bits = refl; in_byte = b; size = refl; size_in_bits = refl; type_name = refl; place = refl }

    by : (p q : Bool) → nat_lt 7 (length here.left.now) ≡ p → nat_lt (length here.left.now) (length here.entry.arrays.now) ≡ q → (if p && q then Err (WrongDimensions long (dimensions here.entry)) else Ok gone) ≡ Ok a → Whole (spot_of here) × Tells group (spot_of here) a
    by true true x y k = absurd (grind arith)
    by true false x y k =
        let is : gone ≡ a = cc in
        (none (ltb-false (length here.left.now) (length here.entry.arrays.now) y), subst (Tells group (spot_of here)) is tells)
    by false q x y k =
        let is : gone ≡ a = cc in
        let few : length here.left.now ≤ 7 = ltb-false 7 (length here.left.now) x in
        (each (omega (arith, few)), subst (Tells group (spot_of here)) is tells)

address_is : (a b : Address) → a.group ≡ b.group → a.offset ≡ b.offset → a.bit ≡ b.bit → a.size ≡ b.size → a.size_in_bits ≡ b.size_in_bits → a.type_name ≡ b.type_name → a.place ≡ b.place → a ≡ b
address_is a b g o t z u n p = λ i. record { group = g i; offset = o i; bit = t i; size = z i; size_in_bits = u i; type_name = n i; place = p i }

whole_back : (here : Here) → Whole (spot_of here) → (nat_lt 7 (length here.left.now) && nat_lt (length here.left.now) (length here.entry.arrays.now)) ≡ false
whole_back here (each l) = let few : length here.left.now ≤ 7 = omega (arith, l) in ap (λ (t : Bool). t && nat_lt (length here.left.now) (length here.entry.arrays.now)) (le-ltb 7 (length here.left.now) few)
whole_back here (none l) = by (nat_lt 7 (length here.left.now))
  where
    by : (t : Bool) → (t && nat_lt (length here.left.now) (length here.entry.arrays.now)) ≡ false
    by true = le-ltb (length here.left.now) (length here.entry.arrays.now) l
    by false = refl

told_back : (long group : ℕ) (here : Here) (a : Address) → here.bit < 8 → Whole (spot_of here) → Tells group (spot_of here) a → told long group here ≡ Ok a
unfolding told
told_back long group here a b w t =
    let gone : Address =
    record {
      group = record { 0 = group };
      offset = record { 0 = here.offset };
      bit = here.bit;
      size = here.size;
      size_in_bits = here.entry.in_bits;
      type_name = here.entry.type_name;
      place = here.entry.place;
    } in
    let bytes : here.offset ≡ a.offset.0 = omega (arith, t.bits, t.in_byte, b) in
    let bit : here.bit ≡ a.bit = omega (arith, t.bits, t.in_byte, b) in
    ap (λ (q : Bool). if q then Err (WrongDimensions long (dimensions here.entry)) else Ok gone) (whole_back here w)
    ∙ ap (λ (x : Address). Ok x) (address_is gone a (sym t.in_group) (ap (λ (k : ℕ). record { 0 = k }) bytes) bit (sym t.size) (sym t.size_in_bits) (sym t.type_name) (sym t.place))

module _ (find_symbol find_type : Finder) (symbols types path : Bor (List ℕ)) where
  reaches_is : (a : Address) → binding find_symbol find_type symbols types path ≡ Ok a → Reaches (Answers find_symbol) (Answers find_type) symbols types path a
  unfolding binding from_symbol
  reaches_is a h =
      let b = both_passed (within_limit symbols.now) h in
      let c = both_passed (within_limit types.now) b.1.1 in
      let d = both_passed (within_limit path.now) c.1.1 in
      let f = both_passed (longest find_symbol path.now (length path.now + 1)) d.1.1 in
      let g = both_passed (below find_type types (length path.now) (symbol_entry symbols f.0.1) (after path f.0.0)) f.1.1 in
      let l = below_is find_type types (length path.now) symbols f.0.1 (after path f.0.0) g.0 g.1.0 in
      let t = told_is (length path.now) (symbol_group symbols f.0.1) g.0 a l.in_byte g.1.1 in
      record {
        symbols_within = small_is symbols.now b.0 b.1.0;
        types_within = small_is types.now c.0 c.1.0;
        path_within = small_is path.now d.0 d.1.0;
        symbol = f.0;
        names = names_symbol find_symbol path.now f.0 f.1.0;
        bit = l.bit;
        reference = l.reference;
        last = spot_of g.0;
        leads = l.leads_there;
        whole = t.0;
        tells = t.1;
      }

  reached : (a : Address) → Reaches (Answers find_symbol) (Answers find_type) symbols types path a → binding find_symbol find_type symbols types path ≡ Ok a
  unfolding binding from_symbol
  reached a r =
      let at : ℕ = r.symbol.1 in
      let text : Bor (List ℕ) = after path r.symbol.0 in
      let b = below_back find_type types (length path.now) symbols at text r.last r.bit r.reference r.leads in
      let w : Whole (spot_of b.there) = subst Whole (sym b.spot) r.whole in
      let t : Tells (symbol_group symbols at) (spot_of b.there) a = subst (λ (x : Spot). Tells (symbol_group symbols at) x a) (sym b.spot) r.tells in
      let start : binding find_symbol find_type symbols types path ≡ from_symbol find_type symbols types path r.symbol =
      rw (limit_is symbols.now r.symbols_within, limit_is types.now r.types_within, limit_is path.now r.path_within, is_longest find_symbol path.now r.symbol r.names) refl in
      start
      ∙ ap (λ (x : Result Here Refusal). and_then x (λ here. told (length path.now) (symbol_group symbols at) here)) b.is
      ∙ told_back (length path.now) (symbol_group symbols at) b.there a b.bit w t

-- by other words for who has which name
module _ {T U : List ℕ → ℕ → Type 0} (types : Bor (List ℕ)) (on : (name : List ℕ) (at : ℕ) → T name at → U name at) where
  type_on : (here there : Spot) → ToType T types here there → ToType U types here there
  type_on here there t =
      record {
        no_dimension = t.no_dimension;
        no_member = t.no_member;
        no_pointer = t.no_pointer;
        start = t.start;
        named = on here.entry.type_name.now t.start t.named;
        has_offset = t.has_offset;
        entry = t.entry;
        bits = t.bits;
        size = t.size;
        asks = t.asks;
      }

  settles_on : (most : ℕ) (here there : Spot) → Settles T types most here there → Settles U types most here there
  settles_on most here there (leads.Settles.rests r) = leads.Settles.rests r
  settles_on most here there (leads.Settles.through {most = fewer} {next = next} t more) = leads.Settles.through (type_on here next t) (settles_on fewer next there more)

  leads_on : (here : Spot) (text : Bor (List ℕ)) (there : Spot) → Leads T types here text there → Leads U types here text there
  leads_on here text there (leads.Leads.at_end e) = leads.Leads.at_end e
  leads_on here text there (leads.Leads.on {next = next} {there = to} {p = p} q s m more) = leads.Leads.on q (settles_on 16 here next s) m (leads_on to p.rest there more)

module _ {S S' T T' : List ℕ → ℕ → Type 0} (symbols types path : Bor (List ℕ)) (to : (name : List ℕ) (at : ℕ) → S name at → S' name at) (from : (name : List ℕ) (at : ℕ) → S' name at → S name at)
    (on : (name : List ℕ) (at : ℕ) → T name at → T' name at) where
  names_on : (path : List ℕ) (symbol : ℕ × ℕ) → NamesSymbol S path symbol → NamesSymbol S' path symbol
  names_on path symbol n =
      record {
        within = n.within;
        is_found = to (take symbol.0 path) symbol.1 n.is_found;
        is_whole = n.is_whole;
        none_longer = λ m h k e at x. n.none_longer m h k e at (from (take m path) at x);
      }

  reaches_on : (a : Address) → Reaches S T symbols types path a → Reaches S' T' symbols types path a
  reaches_on a r =
      record {
        symbols_within = r.symbols_within;
        types_within = r.types_within;
        path_within = r.path_within;
        symbol = r.symbol;
        names = names_on path.now r.symbol r.names;
        bit = r.bit;
        reference = r.reference;
        last = r.last;
        leads = leads_on types on (at_symbol symbols r.symbol.1) (after path r.symbol.0) r.last r.leads;
        whole = r.whole;
        tells = r.tells;
      }

-- through a name index the first accepted entry of a name is found
module _ (mode : Mode) (u : Upload) (name : List ℕ) where
  symbol_as_walked : IsIndexed symbol_places (symbol_of mode) u → symbol_found mode u name ≡ symbol_find.find mode u.bytes name
  symbol_as_walked x =
      let by_steps = symbols_meant.symbols_by_steps mode in
      let p = before_order symbol_places (symbol_of mode) by_steps u.bytes x.old x.new x.count x.built in
      let halves : Halves symbol_places (symbol_of mode) symbol_find.own_name u.bytes (take x.count x.new) name (symbol_found mode u name) =
      subst (λ (l : List ℕ). Halves symbol_places (symbol_of mode) symbol_find.own_name u.bytes l name (symbol_found mode u name)) x.slots (found_meant.symbols mode u name) in
      (same_halved_of symbol_places (symbol_of mode) by_steps symbol_find.own_name (symbol_told mode) u.bytes x.old x.new x.count x.built x.old p.mid x.count p.built name (symbol_found mode u name) halves).1

  type_as_walked : IsIndexed field_places (type_of mode) u → type_found mode u name ≡ type_find.find mode u.bytes name
  type_as_walked x =
      let by_steps = types_meant.types_by_steps mode in
      let p = before_order field_places (type_of mode) by_steps u.bytes x.old x.new x.count x.built in
      let halves : Halves field_places (type_of mode) type_find.own_name u.bytes (take x.count x.new) name (type_found mode u name) =
      subst (λ (l : List ℕ). Halves field_places (type_of mode) type_find.own_name u.bytes l name (type_found mode u name)) x.slots (found_meant.types mode u name) in
      (same_halved_of field_places (type_of mode) by_steps type_find.own_name (type_told mode) u.bytes x.old x.new x.count x.built x.old p.mid x.count p.built name (type_found mode u name) halves).1

  symbol_named : (at : ℕ) → IsIndexed symbol_places (symbol_of mode) u → symbol_found mode u name ≡ Ok at → SymbolNamed mode u.bytes name at
  symbol_named at x h = symbols_meant.found_is_first.walk mode u.bytes name at (sym (symbol_as_walked x) ∙ h)

  type_named : (at : ℕ) → IsIndexed field_places (type_of mode) u → type_found mode u name ≡ Ok at → TypeNamed mode u.bytes name at
  type_named at x h = types_meant.found_is_first.walk mode u.bytes name at (sym (type_as_walked x) ∙ h)

  symbol_first : (at : ℕ) → IsIndexed symbol_places (symbol_of mode) u → SymbolNamed mode u.bytes name at → symbol_found mode u name ≡ Ok at
  symbol_first at x h = symbol_as_walked x ∙ by (list_any (stands u.bytes.now) (steps u.bytes.now)) refl
    where
      small : length u.bytes.now ≤ limit
      small = small_index symbol_places (symbol_of mode) (symbols_meant.symbols_by_steps mode) u.bytes x.old x.new x.count x.built

      by : (t : Bool) → list_any (stands u.bytes.now) (steps u.bytes.now) ≡ t → symbol_find.find mode u.bytes name ≡ Ok at
      by true q = (symbols_meant.find_meant.stood mode u.bytes name q).found at small h
      by false q = (symbols_meant.find_meant.walk mode u.bytes name q).found at small h

  type_first : (at : ℕ) → IsIndexed field_places (type_of mode) u → TypeNamed mode u.bytes name at → type_found mode u name ≡ Ok at
  type_first at x h = type_as_walked x ∙ by (list_any (stands u.bytes.now) (steps u.bytes.now)) refl
    where
      small : length u.bytes.now ≤ limit
      small = small_index field_places (type_of mode) (types_meant.types_by_steps mode) u.bytes x.old x.new x.count x.built

      by : (t : Bool) → list_any (stands u.bytes.now) (steps u.bytes.now) ≡ t → type_find.find mode u.bytes name ≡ Ok at
      by true q = (types_meant.find_meant.stood mode u.bytes name q).found at small h
      by false q = (types_meant.find_meant.walk mode u.bytes name q).found at small h

pub binding_meant : BindingMeant
binding_meant =
    record {
      by_finders = λ find_symbol find_type symbols types path a. (reaches_is find_symbol find_type symbols types path a, reached find_symbol find_type symbols types path a);
      by_names = λ mode symbols types path a x y. (
        λ h.
            reaches_on symbols.bytes types.bytes path (λ name at. symbol_named mode symbols name at x) (λ name at. symbol_first mode symbols name at x) (λ name at. type_named mode types name at y) a
            (reaches_is (symbol_found mode symbols) (type_found mode types) symbols.bytes types.bytes path a h),
        λ r.
            reached (symbol_found mode symbols) (type_found mode types) symbols.bytes types.bytes path a
            (reaches_on symbols.bytes types.bytes path (λ name at. symbol_first mode symbols name at x) (λ name at. symbol_named mode symbols name at x) (λ name at. type_first mode types name at y) a r),
      );
    }

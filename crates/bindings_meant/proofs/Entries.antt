-- What an entry tells is what its reader tells: proved.
use Rattle.std.proofs.Common.{ℕ, zero, suc, ◌+◌, ◌-◌, ◌*◌, min, ◌<◌, ◌≤◌, ◌≡◌, refl, sym, ap, ap₂, subst, ◌∙◌, Bool, true, false, List, [], ◌∷◌, ◌++◌, length, length-drop, arith, Bor, if◌then◌else◌}
use Rattle.std.specs.Prelude.{Option, Some, None, Result, Ok, Err}
use Rattle.std.specs.Option.{option_map}
use Rattle.std.proofs.lemmas.List.{length-append, length-take}
use Rattle.le.specs.Le.{le2, le4, has}
use Rattle.part.specs.Slice.{part, after}
use Rattle.part.specs.Outcome.{and_then}
use Rattle.part.proofs.Slice.{after_after}
use Rattle.refusal.specs.Refusal.{limit}
use Rattle.refusal.specs.declared.Mode.{Mode}
use Rattle.refusal.specs.declared.Refusal.{Refusal}
use Rattle.names.proofs.Meaning.{same_by_letters}
use Rattle.entry.specs.Entry.{claim_at}
use Rattle.entry.proofs.Claims.{meets}
use Rattle.walk.specs.Step.{step_at, parse_of}
use Rattle.walk.proofs.Back.{steps_back}
use Rattle.symbol.specs.declared.AdsSymbolInfo.{AdsSymbolInfo}
use Rattle.symbol.specs.Symbol.{symbol_of, ended_symbol}
use Rattle.symbol.specs.Symbol as symbol
use Rattle.symbol.specs.Kind as symbol_kind
use Rattle.field.specs.declared.front.Front.{Front}
use Rattle.field.specs.Front.{with_strings, front_of}
use Rattle.field.specs.Modes.{strings_end}
use Rattle.data_type.specs.declared.AdsDataTypeInfo.{AdsDataTypeInfo}
use Rattle.data_type.specs.declared.array.ArrayInfos.{ArrayInfos}
use Rattle.data_type.specs.declared.reader.SubItemsRead.{SubItemsRead}
use Rattle.data_type.specs.DataType.{taken, items_from, item_at, type_at, type_of}
use Rattle.data_type.specs.Kind as type_kind
use Rattle.data_type.proofs.Inside.{turn, accepted_at, holds}
use Rattle.data_type.proofs.Numbers.{heads, fills, le2_part}
use Rattle.data_type.proofs.Parts.{part_in}
use Rattle.bind.specs.Reading.{behind, front, own_of, name_of, pointer_mark, symbol_entry, type_entry}
use Rattle.bind.specs.Adding.{items_of}
use Rattle.bind.proofs.Alone.{behind_is, own_is, front_is}
use Rattle.bindings_meant.specs.Entries.{Pointer, IsSymbol, IsType, EntriesMeant}
use Rattle.bindings_meant.specs.Entries as entries

-- a symbol
record Read (e : Bor (List ℕ)) (r : AdsSymbolInfo) : Type 0 where
  group : r.index_group ≡ record { 0 = le4 e.now 4 }
  offset : r.index_offset ≡ record { 0 = le4 e.now 8 }
  size : r.size ≡ le4 e.now 12
  flags : r.flags ≡ record { 0 = le2 e.now 20 }
  type_name : part e (31 + le2 e.now 24) (le2 e.now 26) ≡ r.type_name
  room : 33 + le2 e.now 24 ≤ length e.now

read_is : (mode : Mode) (e : Bor (List ℕ)) (r : AdsSymbolInfo) → symbol_of mode e ≡ Ok r → Read e r
unfolding symbol_of ended_symbol symbol.with_strings
read_is mode e r h = record { group = grind arith; offset = grind arith; size = grind arith; flags = grind arith; type_name = grind arith; room = grind arith }

symbol_is : (mode : Mode) (symbols : Bor (List ℕ)) (at : ℕ) (r : AdsSymbolInfo) → symbol_of mode (own_of (behind symbols at)) ≡ Ok r → IsSymbol r (own_of (behind symbols at)).now (symbol_entry symbols at)
unfolding symbol_entry
symbol_is mode symbols at r h =
    let own : Bor (List ℕ) = own_of (behind symbols at) in
    let x = read_is mode own r h in
    record {
      group = x.group;
      start = x.offset;
      numbers = x.size;
      flags = x.flags;
      offset = ap (λ o. o.0) (sym x.offset);
      size = sym x.size;
      no_pointer = refl;
      type_name = front_is own (31 + le2 own.now 24) (le2 own.now 26) (omega (arith, x.room)) ∙ x.type_name;
    }

-- a data type, by its front
record Told (e : Bor (List ℕ)) (f : Front) : Type 0 where
  size : f.size ≡ le4 e.now 16
  offset : f.offset ≡ le4 e.now 20
  flags : f.flags ≡ record { 0 = le4 e.now 28 }
  name : f.name ≡ part e 42 (le2 e.now 32)
  type_name : f.type_name ≡ part e (43 + le2 e.now 32) (le2 e.now 34)

told_is : (mode : Mode) (e : Bor (List ℕ)) (f : Front) → front_of mode e ≡ Ok f → Told e f
unfolding front_of with_strings
told_is mode e f h = record { size = grind arith; offset = grind arith; flags = grind arith; name = grind arith; type_name = grind arith }

-- the name of the entry at the start of some bytes is that of its own bytes, where these have it
name_own : (s : Bor (List ℕ)) (n : ℕ) → 45 + n ≤ length (own_of s).now → le2 s.now 32 ≡ n → name_of s ≡ part (own_of s) 42 n
name_own s n h e =
    let claim : ℕ = le4 s.now 0 in
    let short : length (own_of s).now ≡ min claim (length s.now) = length-take claim s.now in
    let there : 42 ≤ length s.now = omega (arith, h, short) in
    let room : 42 + n ≤ claim = omega (arith, h, short) in
    front_is s 42 (le2 s.now 32) there ∙ ap (part s 42) e ∙ sym (part_in s 0 claim 42 n room)

name_length : (s : Bor (List ℕ)) → 45 ≤ length (own_of s).now → le2 (own_of s).now 32 ≡ le2 s.now 32
name_length s h =
    let claim : ℕ = le4 s.now 0 in
    let short : length (own_of s).now ≡ min claim (length s.now) = length-take claim s.now in
    le2_part s.now 0 claim 32 (omega (arith, h, short))

pointer_is : (flags : ℕ) → Pointer flags (pointer_mark flags)
pointer_is flags = by (has flags 0x400) (has flags 0x800000) refl refl
  where
    by : (a b : Bool) → has flags 0x400 ≡ a → has flags 0x800000 ≡ b → Pointer flags (if a then 0x400 else if b then 0x800000 else 0)
    by true b p q = entries.Pointer.interface p
    by false true p q = entries.Pointer.plc p q
    by false false p q = entries.Pointer.neither p q

type_is : (mode : Mode) (levels : ℕ) (s : Bor (List ℕ)) (end : ℕ) (r : AdsDataTypeInfo) → type_at mode levels (own_of s) ≡ Ok r → IsType r (own_of s).now (name_of s).now (type_entry s end)
unfolding type_entry
type_is mode levels s end r h =
    let own : Bor (List ℕ) = own_of s in
    let a = accepted_at mode levels own r h in
    let t = told_is mode own a.front a.front_is in
    let d = heads mode own a.front a.front_is in
    let b = fills a.front (a.arrays, a.first) a.arrays_are in
    let n : ℕ = le2 own.now 32 in
    let count : ℕ = le2 own.now 38 in
    let ends : ℕ = strings_end own.now in
    let rest_long : length a.front.rest.now ≡ length own.now - ends = ap (λ (x : Bor (List ℕ)). length x.now) d.rest ∙ length-drop ends own.now in
    let wide : ends ≤ length own.now = d.room in
    let fits : ends + 8 * count ≤ length own.now = omega (arith, b.room, d.arrays, rest_long, wide) in
    let same : a.front.name.now ≡ (name_of s).now =
    ap (λ (x : Bor (List ℕ)). x.now) t.name
    ∙ ap (λ (x : Bor (List ℕ)). x.now) (sym (name_own s n (omega (arith, wide)) (sym (name_length s (omega (arith, wide)))))) in
    let bytes : behind own (ends + 8 * count) ≡ a.first =
    behind_is own (ends + 8 * count) fits ∙ sym (after_after own ends (8 * count)) ∙ ap (λ (x : Bor (List ℕ)). after x (8 * count)) (sym d.rest) ∙ ap (λ (k : ℕ). after a.front.rest (8 * k)) (sym d.arrays) ∙ sym b.first in
    let arrays : front (behind own ends) (8 * count) ≡ a.arrays.bytes =
    ap (λ (x : Bor (List ℕ)). front x (8 * count)) (behind_is own ends wide ∙ sym d.rest) ∙ ap (λ (k : ℕ). part a.front.rest 0 (8 * k)) (sym d.arrays) ∙ ap (λ (x : ArrayInfos). x.bytes) (sym b.arrays) in
    subst (λ (x : AdsDataTypeInfo). IsType x own.now (name_of s).now (type_entry s end)) a.is
    record {
      named = sym same;
      bits = t.flags;
      numbers = (t.size, t.offset);
      offset = sym t.offset;
      size = sym t.size;
      in_bits = ap (λ f. has f.0 0x20) (sym t.flags);
      pointer = subst (λ f. Pointer f.0 (pointer_mark (le4 own.now 28))) (sym t.flags) (pointer_is (le4 own.now 28));
      type_name = front_is own (43 + n) (le2 own.now 34) (omega (arith, wide)) ∙ sym t.type_name;
      arrays = arrays;
      items = ap₂ (λ (x : Bor (List ℕ)) (k : ℕ). record { bytes = x; count = k }) bytes (sym d.items);
    }

-- a sub-item that was taken is the one at the start
record Takes (s own rest : Bor (List ℕ)) : Type 0 where
  own_is : own_of s ≡ own
  rest_is : behind s (le4 s.now 0) ≡ rest

record Taken (s own rest : Bor (List ℕ)) : Type 0 where
  own_at : part s 0 (le4 s.now 0) ≡ own
  rest_at : after s (le4 s.now 0) ≡ rest
  within : le4 s.now 0 ≤ length s.now

taken_is : (s own rest : Bor (List ℕ)) → taken s ≡ Ok (own, rest) → Taken s own rest
unfolding taken
taken_is s own rest h = record { own_at = grind arith; rest_at = grind arith; within = grind arith }

takes : (s own rest : Bor (List ℕ)) → taken s ≡ Ok (own, rest) → Takes s own rest
takes s own rest h = let t = taken_is s own rest h in record { own_is = t.own_at; rest_is = behind_is s (le4 s.now 0) t.within ∙ t.rest_at }

members_are : (mode : Mode) (levels n : ℕ) (s : Bor (List ℕ)) (items : SubItemsRead) (before : List (Bor (List ℕ))) (item : Bor (List ℕ)) (later : List (Bor (List ℕ)))
    → items_from (item_at mode (suc levels)) s n ≡ Ok items → items_of n s ≡ before ++ (item ∷ later) → (m : AdsDataTypeInfo) × (type_at mode levels (own_of item) ≡ Ok m)
unfolding items_of
members_are mode levels zero s items before item later h e =
    let long : 0 ≡ length (before ++ (item ∷ later)) = ap (λ (l : List (Bor (List ℕ))). length l) e in
    absurd (omega (arith, long, length-append before (item ∷ later)))
members_are mode levels (suc n) s items [] item later h e =
    let t = turn mode (suc levels) s n items h in
    let k = takes s t.own t.behind t.takes in
    let is : s ≡ item = cc in
    let deeper : t.deeper ≡ levels = omega (arith, t.some) in
    (t.info, ap (type_at mode levels) (ap own_of (sym is) ∙ k.own_is) ∙ ap (λ (l : ℕ). type_at mode l t.own) (sym deeper) ∙ t.entry)
members_are mode levels (suc n) s items (b ∷ before) item later h e =
    let t = turn mode (suc levels) s n items h in
    let k = takes s t.own t.behind t.takes in
    let on : items_of n (behind s (le4 s.now 0)) ≡ before ++ (item ∷ later) = cc in
    members_are mode levels n t.behind t.more before item later t.rest (ap (items_of n) (sym k.rest_is) ∙ on)

-- what a direct parse of the bytes that a record takes gives, reading the entry there gives
own_read : {R : Type 0} (read : Bor (List ℕ) → Result R Refusal) (header : ℕ) (length_of : R → ℕ) (four : 4 < header) (long : (e : Bor (List ℕ)) (r : R) → read e ≡ Ok r → length_of r ≡ length e.now)
    (s : Bor (List ℕ)) (at : ℕ) (r : R) → length s.now ≤ limit → parse_of header read (part s at (length_of r)) ≡ Ok r → read (own_of (behind s at)) ≡ Ok r
unfolding step_at
own_read read header length_of four long s at r small alone = by (claim_at s.now at).size refl (steps_back read header length_of four long s at r small alone)
  where
    by : (c : Option (Result ℕ Refusal)) → (claim_at s.now at).size ≡ c → option_map (λ claim. and_then claim (λ size. read (part s at size))) c ≡ Some (Ok r) → read (own_of (behind s at)) ≡ Ok r
    by None q k = absurd (grind arith)
    by (Some (Err why)) q k = absurd (grind arith)
    by (Some (Ok size)) q k =
        let m = meets s.now at size q in
        let given : read (part s at size) ≡ Ok r = cc in
        ap read (own_is s at (omega (arith, m.room))) ∙ ap (λ (n : ℕ). read (part s at n)) m.claim ∙ given

pub entries_meant : EntriesMeant
entries_meant =
    record {
      symbol = symbol_is;
      data_type = type_is;
      member = λ mode levels own r before item later h e.
          let m = holds mode (suc levels) own r h in
          members_are mode levels r.sub_items.count r.sub_items.bytes m.items before item later m.read e;
      symbol_named = λ mode symbols name at small f.
          let entry = f.has.entry in
          (entry, (own_read (symbol_of mode) 30 (λ r. r.length) symbol_kind.four (symbol_kind.long mode) symbols at entry small f.has.alone, (same_by_letters entry.name.now name).0 f.has.named));
      type_named = λ mode types name at small f.
          let entry = f.has.entry in
          (entry, (own_read (type_of mode) 42 (λ r. r.field.length) type_kind.four (type_kind.long mode) types at entry small f.has.alone, (same_by_letters entry.field.name.now name).0 f.has.named));
    }

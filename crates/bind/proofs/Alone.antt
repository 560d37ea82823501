-- What is refused first, and what a symbol's own name leads to: proved.
use Rattle.std.proofs.Common.{ℕ, ◌+◌, ◌-◌, min, ◌<◌, ◌≤◌, ◌≡◌, refl, sym, ap, ap₂, ◌∙◌, Bool, true, false, List, [], length, drop, arith, add-one, Bor, if◌then◌else◌}
use Rattle.std.specs.Prelude.{Result, Ok, Err, ◌==◌}
use Rattle.std.proofs.Math.Seq.{take-length, drop-length}
use native.Mathlib.Nat.{add-zero}
use borrow.Author.Tests.{lt-ltb, le-ltb}
use Rattle.le.specs.Le.{le2, le4}
use Rattle.part.specs.Slice.{part, after}
use Rattle.part.specs.Outcome.{outcome, and_then}
use Rattle.part.proofs.Slice.{part_after}
use Rattle.refusal.specs.Refusal.{limit}
use Rattle.refusal.specs.declared.Mode.{Mode}
use Rattle.refusal.specs.declared.Refusal.{Refusal}
use Rattle.refusal.specs.declared.Refusal.TheVariants.{TooLarge, NoOffset}
use Rattle.symbol.specs.declared.AdsSymbolInfo.{AdsSymbolInfo}
use Rattle.symbol.specs.Symbol.{symbol_of, ended_symbol}
use Rattle.symbol.specs.Symbol as symbol
use Rattle.data_type.proofs.Numbers.{le4_drop}
use Rattle.path.specs.Path.{ends}
use Rattle.bind.specs.declared.Address.{Address}
use Rattle.bind.specs.declared.reading.Entry.{Entry}
use Rattle.bind.specs.declared.reading.Place.TheVariants.{Symbol}
use Rattle.bind.specs.declared.steps.Here.{Here}
use Rattle.bind.specs.Reading.{behind, front, own_of, symbol_mark, symbol_entry}
use Rattle.bind.specs.Binding.{Finder, within_limit, longest, start_at, along, below, told, from_symbol, binding}
use Rattle.bind.specs.Meaning.{LimitsFirst, SymbolAlone}

pub behind_is : (s : Bor (List ℕ)) (at : ℕ) → at ≤ length s.now → behind s at ≡ after s at
behind_is s at h = let e : min at (length s.now) ≡ at = omega arith in ap (after s) e

pub own_is : (s : Bor (List ℕ)) (at : ℕ) → at ≤ length s.now → own_of (behind s at) ≡ part s at (le4 s.now at)
own_is s at h =
    ap own_of (behind_is s at h) ∙ part_after s at 0 (le4 (drop at s.now) 0)
    ∙ ap₂ (λ (a n : ℕ). part s a n) (add-zero at) (le4_drop s.now at 0 ∙ ap (le4 s.now) (add-zero at))

-- the entry of a symbol's own bytes
abbrev entry_of : Bor (List ℕ) → ℕ → Entry
entry_of own at =
    record {
      place = Symbol at;
      offset = le4 own.now 8;
      size = le4 own.now 12;
      in_bits = false;
      mark = symbol_mark (le2 own.now 20);
      pointer = 0;
      type_name = front (behind own (31 + le2 own.now 24)) (le2 own.now 26);
      arrays = front own 0;
      items = record { bytes = front own 0; count = 0 };
      end = 0;
    }

entry_is : (s : Bor (List ℕ)) (at : ℕ) → at ≤ length s.now → symbol_entry s at ≡ entry_of (part s at (le4 s.now at)) at
unfolding symbol_entry
entry_is s at h = ap (λ (own : Bor (List ℕ)). entry_of own at) (own_is s at h)

-- what the reader tells of them
group_is : (mode : Mode) (e : Bor (List ℕ)) (r : AdsSymbolInfo) → symbol_of mode e ≡ Ok r → r.index_group ≡ record { 0 = le4 e.now 4 }
unfolding symbol_of ended_symbol symbol.with_strings
group_is mode e r h = grind arith

offset_is : (mode : Mode) (e : Bor (List ℕ)) (r : AdsSymbolInfo) → symbol_of mode e ≡ Ok r → r.index_offset ≡ record { 0 = le4 e.now 8 }
unfolding symbol_of ended_symbol symbol.with_strings
offset_is mode e r h = grind arith

size_is : (mode : Mode) (e : Bor (List ℕ)) (r : AdsSymbolInfo) → symbol_of mode e ≡ Ok r → le4 e.now 12 ≡ r.size
unfolding symbol_of ended_symbol symbol.with_strings
size_is mode e r h = grind arith

type_is : (mode : Mode) (e : Bor (List ℕ)) (r : AdsSymbolInfo) → symbol_of mode e ≡ Ok r → part e (31 + le2 e.now 24) (le2 e.now 26) ≡ r.type_name
unfolding symbol_of ended_symbol symbol.with_strings
type_is mode e r h = grind arith

room_is : (mode : Mode) (e : Bor (List ℕ)) (r : AdsSymbolInfo) → symbol_of mode e ≡ Ok r → 33 + le2 e.now 24 ≤ length e.now
unfolding symbol_of
room_is mode e r h = grind arith

pub front_is : (e : Bor (List ℕ)) (k n : ℕ) → k ≤ length e.now → front (behind e k) n ≡ part e k n
front_is e k n h = ap (λ (x : Bor (List ℕ)). front x n) (behind_is e k h) ∙ part_after e k 0 n ∙ ap (λ (a : ℕ). part e a n) (add-zero k)

limit_is : (s : List ℕ) → length s ≤ limit → within_limit s ≡ Ok tt
limit_is s h = ap (λ (t : Bool). if t then Err (TooLarge (length s)) else Ok tt) (le-ltb limit (length s) h)

above_is : (s : List ℕ) → limit < length s → within_limit s ≡ Err (TooLarge (length s))
above_is s h = ap (λ (t : Bool). if t then Err (TooLarge (length s)) else Ok tt) (lt-ltb limit (length s) h)

pub limits_first : LimitsFirst
unfolding binding
limits_first =
    record {
      symbols = λ find_symbol find_type s t path h. rw (above_is s.now h) refl;
      types = λ find_symbol find_type s t path hs h. rw (limit_is s.now hs, above_is t.now h) refl;
      path = λ find_symbol find_type s t path hs ht h. rw (limit_is s.now hs, limit_is t.now ht, above_is path.now h) refl;
    }

longest_is : (find : Finder) (path : List ℕ) (at : ℕ) → find path ≡ Ok at → longest find path (length path + 1) ≡ Ok (length path, at)
unfolding longest
longest_is find path at h =
    ap (longest find path) (add-one (length path))
    ∙ ap₂ (λ (d k : List ℕ). if ends d then outcome (find k) (λ start. Ok (length path, start)) (λ why. longest find path (length path)) else longest find path (length path)) (drop-length path) (take-length path)
    ∙ ap (λ (r : Result ℕ Refusal). outcome r (λ start. Ok (length path, start)) (λ why. longest find path (length path))) h

below_is : (find : Finder) (types : Bor (List ℕ)) (long : ℕ) (e : Entry) (text : Bor (List ℕ)) → text.now ≡ [] → below find types long e text ≡ Ok (start_at e)
unfolding below
below_is find types long e text h =
    let none : (length text.now == 0) ≡ true = ap (λ (l : List ℕ). length l == 0) h in
    ap (λ (t : Bool). if t then Ok (start_at e) else if e.mark == 0 then along find types long (length text.now) (start_at e) text else Err (NoOffset (long + 1 - length text.now) e.mark)) none

abbrev address_of : ℕ → Entry → Address
address_of group e = record { group = record { 0 = group }; offset = record { 0 = e.offset }; bit = 0; size = e.size; size_in_bits = e.in_bits; type_name = e.type_name; place = e.place }

told_is : (long group : ℕ) (own : Bor (List ℕ)) (at : ℕ) → told long group (start_at (entry_of own at)) ≡ Ok (address_of group (entry_of own at))
unfolding told
told_is long group own at = refl

from_is : (find : Finder) (s t path : Bor (List ℕ)) (at : ℕ) → at ≤ length s.now
    → from_symbol find s t path (length path.now, at) ≡ Ok (address_of (le4 (part s at (le4 s.now at)).now 4) (entry_of (part s at (le4 s.now at)) at))
unfolding from_symbol
from_is find s t path at h =
    ap₂ (λ (r : Result Here Refusal) (own : Bor (List ℕ)). and_then r (λ here. told (length path.now) (le4 own.now 4) here)) (below_is find t (length path.now) (symbol_entry s at) (after path (length path.now)) (drop-length path.now)) (own_is s at h)
    ∙ ap (λ (e : Entry). told (length path.now) (le4 (part s at (le4 s.now at)).now 4) (start_at e)) (entry_is s at h)
    ∙ told_is (length path.now) (le4 (part s at (le4 s.now at)).now 4) (part s at (le4 s.now at)) at

binding_is : (find_symbol find_type : Finder) (s t path : Bor (List ℕ)) (at : ℕ) → length s.now ≤ limit → length t.now ≤ limit → length path.now ≤ limit → find_symbol path.now ≡ Ok at
    → binding find_symbol find_type s t path ≡ from_symbol find_type s t path (length path.now, at)
unfolding binding
binding_is find_symbol find_type s t path at hs ht hp found =
    rw (limit_is s.now hs, limit_is t.now ht, limit_is path.now hp, longest_is find_symbol path.now at found) refl

pub symbol_alone : SymbolAlone
symbol_alone mode find_symbol find_type s t path at r hs ht hp found room own =
    let e : Bor (List ℕ) = part s at (le4 s.now at) in
    let inside : at ≤ length s.now = omega arith in
    let wide : 33 + le2 e.now 24 ≤ length e.now = room_is mode e r own in (
      address_of (le4 e.now 4) (entry_of e at),
      (
        binding_is find_symbol find_type s t path at hs ht hp found ∙ from_is find_type s t path at inside,
        record {
          group = sym (group_is mode e r own);
          offset = sym (offset_is mode e r own);
          bit = refl;
          size = size_is mode e r own;
          unit = refl;
          type_name = front_is e (31 + le2 e.now 24) (le2 e.now 26) (omega (arith, wide)) ∙ type_is mode e r own;
          place = refl;
        },
      ),
    )

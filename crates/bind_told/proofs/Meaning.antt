-- What the slots of an address say.
use Rattle.std.proofs.Common.{ℕ, ◌+◌, ◌≤◌, ◌≡◌, refl, sym, ap, ap₂, ◌∙◌, Bool, true, false, List, length, drop, min, arith, Bor, get_or-drop}
use Rattle.std.specs.Prelude.{Ok}
use native.Mathlib.Nat.{add_assoc}
use Rattle.le.specs.Le.{le2, le4}
use Rattle.le.specs.Le as le
use Rattle.le.proofs.Laws.{part_part}
use Rattle.part.specs.Slice.{part}
use Rattle.part.proofs.Slice.{length_part}
use Rattle.refusal.specs.declared.Mode.{Mode}
use Rattle.symbol.specs.declared.AdsSymbolInfo.{AdsSymbolInfo}
use Rattle.symbol.specs.Symbol.{symbol_of}
use Rattle.symbol.proofs.Lies.{symbols_inside}
use Rattle.field.specs.declared.AdsFieldInfo.{AdsFieldInfo}
use Rattle.field.specs.Field.{field_of}
use Rattle.field.proofs.Within.{fields_within}
use Rattle.data_type.proofs.Numbers.{le2_part}
use Rattle.told.specs.Slots.{bit}
use Rattle.bind.specs.declared.Address.{Address}
use Rattle.bind.specs.declared.reading.Place.{Place}
use Rattle.bind.specs.declared.reading.Place.TheVariants.{Symbol, DataType}
use Rattle.bind_told.specs.Address.{address_slots, upload_of, start_of, behind, type_name_at}
use Rattle.bind_told.specs.Meaning.{IsFlag, IsEntry, AddressTold, TypeNameTold, AddressesTold}

flag : (b : Bool) → IsFlag b (bit b)
flag true = refl
flag false = refl

entry : (p : Place) → IsEntry p (upload_of p) (start_of p)
entry (Symbol at) = (refl, refl)
entry (DataType at) = (refl, refl)

address_told : (symbols types : Bor (List ℕ)) (a : Address) → AddressTold a (address_slots symbols types a)
unfolding address_slots
address_told symbols types a = record {
  group = refl;
  offset = refl;
  bit = refl;
  size = refl;
  size_in_bits = flag a.size_in_bits;
  entry = entry a.place;
  type_name_len = refl;
  all = refl;
}

-- a part of a part
within : (s : Bor (List ℕ)) (at n k m : ℕ) → k + m ≤ n → part (part s at n) k m ≡ part s (at + k) m
unfolding le.part
within s at n k m h = ap₂ (λ (x : ℕ) (y : List ℕ). record { ref_ptr = (s.ref_ptr.0, x); now = y }) (add_assoc s.ref_ptr.1 at k) (part_part s.now at n k m h)

le2_drop : (s : List ℕ) (at k : ℕ) → le2 (drop at s) k ≡ le2 s (at + k)
unfolding le2
le2_drop s at k = simp (get_or-drop at s k 0, get_or-drop at s (k + 1) 0, add_assoc)

-- a number of a header is the same by the entry's own bytes and by all behind its start
same_number : (s : Bor (List ℕ)) (at n k : ℕ) → at + n ≤ length s.now → k + 2 ≤ n → le2 (behind s at).now k ≡ le2 (part s at n).now k
same_number s at n k room h =
    let e : min at (length s.now) ≡ at = omega (arith, room) in
    ap (λ (x : ℕ). le2 (drop x s.now) k) e ∙ le2_drop s.now at k ∙ sym (le2_part s.now at n k h)

-- a string of an entry's own bytes lies where all behind its start have it
string_there : (s q t : Bor (List ℕ)) (at n k m : ℕ) → at + n ≤ length s.now → q ≡ part (part s at n) k m → k + m ≤ n → m ≡ length q.now → t ≡ q → part s (at + k) (length t.now) ≡ t
string_there s q t at n k m room e h l same =
    ap (λ (x : Bor (List ℕ)). part s (at + k) (length x.now)) same ∙ ap (λ (x : ℕ). part s (at + k) x) (sym l) ∙ sym (within s at n k m h) ∙ sym e ∙ sym same

of_symbol : (mode : Mode) (symbols types : Bor (List ℕ)) (a : Address) (at : ℕ) (r : AdsSymbolInfo) → at + le4 symbols.now at ≤ length symbols.now
    → symbol_of mode (part symbols at (le4 symbols.now at)) ≡ Ok r → a.place ≡ Symbol at → a.type_name ≡ r.type_name
    → part symbols (start_of a.place + type_name_at symbols types a.place) (length a.type_name.now) ≡ a.type_name
of_symbol mode symbols types a at r room h p t =
    let n : ℕ = le4 symbols.now at in
    let i = symbols_inside mode (part symbols at n) r h in
    let long : length (part symbols at n).now ≡ n = length_part symbols at n room in
    let inside : 31 + length r.name.now + length r.type_name.now ≤ n = omega (arith, i.type_name.within, long) in
    let k : 31 + le2 (behind symbols at).now 24 ≡ 31 + length r.name.now
    = ap (λ (x : ℕ). 31 + x) (same_number symbols at n 24 room (omega (arith, inside)) ∙ sym i.name_length) in
    ap (λ (q : Place). part symbols (start_of q + type_name_at symbols types q) (length a.type_name.now)) p
    ∙ ap (λ (x : ℕ). part symbols (at + x) (length a.type_name.now)) k
    ∙ string_there symbols r.type_name a.type_name at n (31 + length r.name.now) (length r.type_name.now) room i.type_name.is inside refl t

of_field : (mode : Mode) (symbols types : Bor (List ℕ)) (a : Address) (at : ℕ) (r : AdsFieldInfo) → at + le4 types.now at ≤ length types.now
    → field_of mode (part types at (le4 types.now at)) ≡ Ok r → a.place ≡ DataType at → a.type_name ≡ r.type_name
    → part types (start_of a.place + type_name_at symbols types a.place) (length a.type_name.now) ≡ a.type_name
of_field mode symbols types a at r room h p t =
    let n : ℕ = le4 types.now at in
    let i = fields_within mode (part types at n) r h in
    let long : length (part types at n).now ≡ n = length_part types at n room in
    let inside : 43 + length r.name.now + length r.type_name.now ≤ n = omega (arith, i.room, long) in
    let k : 43 + le2 (behind types at).now 32 ≡ 43 + length r.name.now
    = ap (λ (x : ℕ). 43 + x) (same_number types at n 32 room (omega (arith, inside)) ∙ sym i.name_length) in
    ap (λ (q : Place). part types (start_of q + type_name_at symbols types q) (length a.type_name.now)) p
    ∙ ap (λ (x : ℕ). part types (at + x) (length a.type_name.now)) k
    ∙ string_there types r.type_name a.type_name at n (43 + length r.name.now) (length r.type_name.now) room i.type_name inside refl t

type_name_told : (symbols types : Bor (List ℕ)) (a : Address) → TypeNameTold symbols types a (address_slots symbols types a)
unfolding address_slots
type_name_told symbols types a = record {
  of_symbol = λ mode at r room h p t. of_symbol mode symbols types a at r room h p t;
  of_field = λ mode at r room h p t. of_field mode symbols types a at r room h p t;
}

pub addresses_told : AddressesTold
addresses_told symbols types = record {
  found = λ a status answer old t. (t.is, t.numbers, address_told symbols types a, type_name_told symbols types a);
  refused = λ why status answer old t. (t.is, t.numbers, refl);
}

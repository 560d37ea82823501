-- docs/FORMAT.md, "Finding", "Symbol entries" and "Field entries". Where symbols, fields and data types have their names.
use Rattle.std.proofs.Common.{ℕ, ◌+◌, ◌≤◌, ◌≡◌, ap, subst, List, length, arith, Bor}
use Rattle.std.specs.Prelude.{Ok}
use Rattle.le.specs.Le.{le2, part}
use Rattle.refusal.specs.declared.Mode.{Mode}
use Rattle.symbol.specs.declared.AdsSymbolInfo.{AdsSymbolInfo}
use Rattle.symbol.specs.Symbol.{symbol_of, ended_symbol}
use Rattle.symbol.specs.Symbol as symbol
use Rattle.field.specs.declared.AdsFieldInfo.{AdsFieldInfo}
use Rattle.field.specs.declared.front.Front.{Front}
use Rattle.field.specs.Front.{front_of, with_strings}
use Rattle.field.specs.Tail.{tail_of}
use Rattle.field.specs.Field.{joined, behind_items, field_of}
use Rattle.data_type.specs.declared.AdsDataTypeInfo.{AdsDataTypeInfo}
use Rattle.data_type.specs.DataType.{ItemReader, type_with, type_at, type_of}
use Rattle.part.proofs.Outcome.{both_passed}
use Rattle.data_type.specs.Accepted.{accepted}
use Rattle.name_order.specs.declared.places.NamePlaces.{NamePlaces}
use Rattle.named.specs.Named.{TellsName}

-- a symbol's name begins at 30, and its length stands at 24
abbrev pub symbol_places : NamePlaces
symbol_places = record { length = 24; name = 30; behind = omega arith }

-- a field's and a data type's name begins at 42, and its length stands at 32
abbrev pub field_places : NamePlaces
field_places = record { length = 32; name = 42; behind = omega arith }

-- no header is shorter than a symbol's
pub symbol_shortest : 30 ≤ 30
symbol_shortest = omega arith

pub field_shortest : 30 ≤ 42
field_shortest = omega arith

own_name : (mode : Mode) (e : Bor (List ℕ)) (r : AdsSymbolInfo) → symbol_of mode e ≡ Ok r → r.name.now ≡ part e.now 30 (le2 e.now 24)
unfolding symbol_of ended_symbol symbol.with_strings part
own_name mode e r h = grind arith

own_room : (mode : Mode) (e : Bor (List ℕ)) (r : AdsSymbolInfo) → symbol_of mode e ≡ Ok r → 33 + le2 e.now 24 ≤ length e.now
unfolding symbol_of
own_room mode e r h = grind arith

pub symbol_told : (mode : Mode) (e : Bor (List ℕ)) (r : AdsSymbolInfo) → symbol_of mode e ≡ Ok r → TellsName symbol_places e.now r.name.now
symbol_told mode e r h = record { is = own_name mode e r h; room = omega (arith, own_room mode e r h) }

front_name : (mode : Mode) (e : Bor (List ℕ)) (f : Front) → front_of mode e ≡ Ok f → f.name.now ≡ part e.now 42 (le2 e.now 32)
unfolding front_of with_strings part
front_name mode e f h = grind arith

front_room : (mode : Mode) (e : Bor (List ℕ)) (f : Front) → front_of mode e ≡ Ok f → 45 + le2 e.now 32 ≤ length e.now
unfolding front_of
front_room mode e f h = grind arith

front_told : (mode : Mode) (e : Bor (List ℕ)) (f : Front) → front_of mode e ≡ Ok f → TellsName field_places e.now f.name.now
front_told mode e f h = record { is = front_name mode e f h; room = omega (arith, front_room mode e f h) }

pub field_told : (mode : Mode) (e : Bor (List ℕ)) (r : AdsFieldInfo) → field_of mode e ≡ Ok r → TellsName field_places e.now r.name.now
unfolding field_of
field_told mode e r h =
    let f = both_passed (front_of mode e) h in
    let t = both_passed (tail_of mode f.0 (behind_items f.0)) f.1.1 in
    let is : joined f.0 t.0 ≡ r = cc t.1.1 in
    subst (λ (n : Bor (List ℕ)). TellsName field_places e.now n.now) (ap (λ (x : AdsFieldInfo). x.name) is) (front_told mode e f.0 f.1.0)

with_told : (mode : Mode) (item : ItemReader) (e : Bor (List ℕ)) (r : AdsDataTypeInfo) → type_with mode item e ≡ Ok r → TellsName field_places e.now r.field.name.now
with_told mode item e r h =
    let a = accepted mode item e r h in
    subst (λ (n : Bor (List ℕ)). TellsName field_places e.now n.now) (ap (λ (x : AdsDataTypeInfo). x.field.name) a.is) (front_told mode e a.front a.front_is)

pub type_told : (mode : Mode) (e : Bor (List ℕ)) (r : AdsDataTypeInfo) → type_of mode e ≡ Ok r → TellsName field_places e.now r.field.name.now
unfolding type_at
type_told mode e r h = with_told mode _ e r h

-- docs/FORMAT.md, "Binding", "Symbol entries" and "Data type entries": what an entry tells on the way along a path is what its reader tells.
use Rattle.std.specs.Prelude.{ℕ, suc, ◌≤◌, ◌≡◌, true, false, List, ◌∷◌, ◌++◌, Ok, length}
use Rattle.std.specs.Borrow.{Bor}
use Rattle.le.specs.Le.{le2, le4, has}
use Rattle.refusal.specs.Refusal.{limit}
use Rattle.refusal.specs.declared.Mode.{Mode}
use Rattle.names.specs.Meaning.{SameLetters}
use Rattle.symbol.specs.declared.AdsSymbolInfo.{AdsSymbolInfo}
use Rattle.symbol.specs.Symbol.{symbol_of}
use Rattle.data_type.specs.declared.AdsDataTypeInfo.{AdsDataTypeInfo}
use Rattle.data_type.specs.DataType.{type_at, type_of}
use Rattle.bind.specs.declared.reading.Entry.{Entry}
use Rattle.bind.specs.Reading.{behind, own_of, name_of, symbol_entry, type_entry}
use Rattle.bind.specs.Adding.{items_of}
use Rattle.bindings_meant.specs.Reaches.{SymbolNamed, TypeNamed}

-- which flag says that a data type, or a member, is a pointer: 0x400 to an interface, else 0x800000, else none
pub data Pointer (flags : ℕ) : ℕ → Type 0 where
  interface : has flags 0x400 ≡ true → Pointer flags 0x400
  plc : has flags 0x400 ≡ false → has flags 0x800000 ≡ true → Pointer flags 0x800000
  neither : has flags 0x400 ≡ false → has flags 0x800000 ≡ false → Pointer flags 0

-- by an entry's own bytes, and what is told of it. A symbol is no pointer by its own flags
pub record IsSymbol (r : AdsSymbolInfo) (own : List ℕ) (e : Entry) : Type 0 where
  pub group : r.index_group ≡ record { 0 = le4 own 4 }
  pub start : r.index_offset ≡ record { 0 = le4 own 8 }
  pub numbers : r.size ≡ le4 own 12
  pub flags : r.flags ≡ record { 0 = le2 own 20 }
  pub offset : e.offset ≡ r.index_offset.0
  pub size : e.size ≡ r.size
  pub no_pointer : e.pointer ≡ 0
  pub type_name : e.type_name ≡ r.type_name

pub record IsType (r : AdsDataTypeInfo) (own name : List ℕ) (e : Entry) : Type 0 where
  pub named : name ≡ r.field.name.now
  pub bits : r.field.flags ≡ record { 0 = le4 own 28 }
  pub numbers : (r.field.size ≡ le4 own 16) × (r.field.offset ≡ le4 own 20)
  pub offset : e.offset ≡ r.field.offset
  pub size : e.size ≡ r.field.size
  pub in_bits : e.in_bits ≡ has r.field.flags.0 0x20
  pub pointer : Pointer r.field.flags.0 e.pointer
  pub type_name : e.type_name ≡ r.field.type_name
  pub arrays : e.arrays ≡ r.arrays.bytes
  pub items : e.items ≡ r.sub_items

-- of a symbol and of a data type that are accepted, and of a member at any level. What is first of a name is accepted, and so is each member of what is accepted
pub record EntriesMeant : Type 0 where
  pub symbol : (mode : Mode) (symbols : Bor (List ℕ)) (at : ℕ) (r : AdsSymbolInfo) → symbol_of mode (own_of (behind symbols at)) ≡ Ok r → IsSymbol r (own_of (behind symbols at)).now (symbol_entry symbols at)
  pub data_type : (mode : Mode) (levels : ℕ) (s : Bor (List ℕ)) (end : ℕ) (r : AdsDataTypeInfo) → type_at mode levels (own_of s) ≡ Ok r → IsType r (own_of s).now (name_of s).now (type_entry s end)
  pub member : (mode : Mode) (levels : ℕ) (own : Bor (List ℕ)) (r : AdsDataTypeInfo) (before : List (Bor (List ℕ))) (item : Bor (List ℕ)) (later : List (Bor (List ℕ)))
      → type_at mode (suc levels) own ≡ Ok r → items_of r.sub_items.count r.sub_items.bytes ≡ before ++ (item ∷ later) → (m : AdsDataTypeInfo) × (type_at mode levels (own_of item) ≡ Ok m)
  pub symbol_named : (mode : Mode) (symbols : Bor (List ℕ)) (name : List ℕ) (at : ℕ) → length symbols.now ≤ limit → SymbolNamed mode symbols name at → (r : AdsSymbolInfo) × ((symbol_of mode (own_of (behind symbols at)) ≡ Ok r) × SameLetters r.name.now name)
  pub type_named : (mode : Mode) (types : Bor (List ℕ)) (name : List ℕ) (at : ℕ) → length types.now ≤ limit → TypeNamed mode types name at → (r : AdsDataTypeInfo) × ((type_of mode (own_of (behind types at)) ≡ Ok r) × SameLetters r.field.name.now name)

-- docs/FORMAT.md, "Binding": the address of a path, by the symbol with which it begins and by where its parts lead from there.
use Rattle.std.specs.Prelude.{ℕ, ◌+◌, ◌*◌, ◌<◌, ◌≤◌, ◌≡◌, false, List, [], Result, Ok, length, take}
use Rattle.std.specs.Borrow.{Bor}
use Rattle.le.specs.Le.{le2, le4, has}
use Rattle.part.specs.Slice.{after}
use Rattle.refusal.specs.Refusal.{limit}
use Rattle.refusal.specs.declared.Mode.{Mode}
use Rattle.refusal.specs.declared.Refusal.{Refusal}
use Rattle.entry.specs.Walk.{steps}
use Rattle.writing.specs.Writing.{Writes}
use Rattle.symbol.specs.Symbol.{symbol_of}
use Rattle.data_type.specs.DataType.{type_of}
use Rattle.name_order.specs.declared.places.NamePlaces.{NamePlaces}
use Rattle.named.specs.Kinds.{symbol_places, field_places}
use Rattle.symbol_find.specs.Meaning as symbol_find
use Rattle.type_find.specs.Meaning as type_find
use Rattle.name_index.specs.Index.{name_indexing}
use Rattle.bind.specs.declared.Address.{Address}
use Rattle.bind.specs.declared.Upload.{Upload}
use Rattle.bind.specs.Found.{symbol_found, type_found}
use Rattle.bind.specs.Reading.{behind, own_of, symbol_entry}
use Rattle.bind.specs.Binding.{Finder, binding}
use Rattle.bindings_meant.specs.Longest.{Answers, NamesSymbol}
use Rattle.bindings_meant.specs.Leads.{Spot, Leads}

-- a symbol's own numbers
abbrev pub at_symbol : Bor (List ℕ) → ℕ → Spot
at_symbol symbols at = let own : List ℕ = (own_of (behind symbols at)).now in record { entry = symbol_entry symbols at; bits = 8 * le4 own 8; size = le4 own 12; left = [] }

-- of an array none of the dimensions has a number, or each
pub data Whole (last : Spot) : Type 0 where
  each : length last.left < 8 → Whole last
  none : length last.entry.arrays.now ≤ length last.left → Whole last

-- an address in an index group tells where a path has led
pub record Tells (group : ℕ) (last : Spot) (a : Address) : Type 0 where
  pub in_group : a.group ≡ record { 0 = group }
  pub bits : 8 * a.offset.0 + a.bit ≡ last.bits
  pub in_byte : a.bit < 8
  pub size : a.size ≡ last.size
  pub size_in_bits : a.size_in_bits ≡ last.entry.in_bits
  pub type_name : a.type_name ≡ last.entry.type_name
  pub place : a.place ≡ last.entry.place

-- a path begins with a symbol's name, the longest that it begins with, and its parts lead from there to an address; a symbol that is a bit or a reference has nothing below it
pub record Reaches (SymbolAt TypeAt : List ℕ → ℕ → Type 0) (symbols types path : Bor (List ℕ)) (a : Address) : Type 0 where
  pub symbols_within : length symbols.now ≤ limit
  pub types_within : length types.now ≤ limit
  pub path_within : length path.now ≤ limit
  pub symbol : ℕ × ℕ
  pub names : NamesSymbol SymbolAt path.now symbol
  pub bit : 0 < length (after path symbol.0).now → has (le2 (own_of (behind symbols symbol.1)).now 20) 0x2 ≡ false
  pub reference : 0 < length (after path symbol.0).now → has (le2 (own_of (behind symbols symbol.1)).now 20) 0x4 ≡ false
  pub last : Spot
  pub leads : Leads TypeAt types (at_symbol symbols symbol.1) (after path symbol.0) last
  pub whole : Whole last
  pub tells : Tells (le4 (own_of (behind symbols symbol.1)).now 4) last a

-- the slots of an upload are its name index, as it was built
pub record IsIndexed {R : Type 0} (w : NamePlaces) (read : Bor (List ℕ) → Result R Refusal) (u : Upload) : Type 0 where
  pub old : List ℕ
  pub new : List ℕ
  pub count : ℕ
  pub built : Writes (name_indexing w read u.bytes) old new (Ok count)
  pub slots : u.slots.now ≡ take count new

-- the first accepted entry of a name
abbrev pub SymbolNamed : Mode → Bor (List ℕ) → List ℕ → ℕ → Type 0
SymbolNamed mode s name at = symbol_find.Finds mode s name (steps s.now) at

abbrev pub TypeNamed : Mode → Bor (List ℕ) → List ℕ → ℕ → Type 0
TypeNamed mode s name at = type_find.Finds mode s name (steps s.now) at

-- a path has the address that it reaches, and no other: whoever finds symbols and data types by their names; and through name indices by the first accepted entry of each name
pub record BindingMeant : Type 0 where
  pub by_finders : (find_symbol find_type : Finder) (symbols types path : Bor (List ℕ)) (a : Address)
      → (binding find_symbol find_type symbols types path ≡ Ok a → Reaches (Answers find_symbol) (Answers find_type) symbols types path a)
      × (Reaches (Answers find_symbol) (Answers find_type) symbols types path a → binding find_symbol find_type symbols types path ≡ Ok a)
  pub by_names : (mode : Mode) (symbols types : Upload) (path : Bor (List ℕ)) (a : Address) → IsIndexed symbol_places (symbol_of mode) symbols → IsIndexed field_places (type_of mode) types
      → (binding (symbol_found mode symbols) (type_found mode types) symbols.bytes types.bytes path ≡ Ok a → Reaches (SymbolNamed mode symbols.bytes) (TypeNamed mode types.bytes) symbols.bytes types.bytes path a)
      × (Reaches (SymbolNamed mode symbols.bytes) (TypeNamed mode types.bytes) symbols.bytes types.bytes path a → binding (symbol_found mode symbols) (type_found mode types) symbols.bytes types.bytes path ≡ Ok a)

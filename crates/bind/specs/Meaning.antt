-- docs/FORMAT.md, "Binding": what finding through slots means here, and what a symbol's own name leads to.
use Rattle.std.specs.Prelude.{ℕ, ◌+◌, ◌<◌, ◌≤◌, ◌≡◌, false, List, Ok, Err, length}
use Rattle.std.specs.Borrow.{Bor}
use Rattle.le.specs.Le.{le4}
use Rattle.part.specs.Slice.{part}
use Rattle.refusal.specs.Refusal.{limit}
use Rattle.refusal.specs.declared.Mode.{Mode}
use Rattle.refusal.specs.declared.Refusal.TheVariants.{TooLarge}
use Rattle.symbol.specs.declared.AdsSymbolInfo.{AdsSymbolInfo}
use Rattle.symbol.specs.Symbol.{symbol_of}
use Rattle.data_type.specs.DataType.{type_of}
use Rattle.named.specs.Kinds.{symbol_places, field_places}
use Rattle.name_index.specs.Index.{Halves}
use Rattle.bind.specs.declared.Address.{Address}
use Rattle.bind.specs.declared.Upload.{Upload}
use Rattle.bind.specs.declared.reading.Place.TheVariants.{Symbol}
use Rattle.bind.specs.Found.{symbol_found, type_found}
use Rattle.bind.specs.Binding.{Finder, binding}

-- through any slots an entry that has the name or none; through slots in order the one that is found through all of them
pub record FoundMeant : Type 0 where
  pub symbols : (mode : Mode) (u : Upload) (name : List ℕ) → Halves symbol_places (symbol_of mode) (λ r. r.name.now) u.bytes u.slots.now name (symbol_found mode u name)
  pub types : (mode : Mode) (u : Upload) (name : List ℕ) → Halves field_places (type_of mode) (λ r. r.field.name.now) u.bytes u.slots.now name (type_found mode u name)

-- the symbols' length is looked at first, then that of the data types, then the path's
pub record LimitsFirst : Type 0 where
  pub symbols : (find_symbol find_type : Finder) (symbols types path : Bor (List ℕ)) → limit < length symbols.now → binding find_symbol find_type symbols types path ≡ Err (TooLarge (length symbols.now))
  pub types : (find_symbol find_type : Finder) (symbols types path : Bor (List ℕ))
      → length symbols.now ≤ limit → limit < length types.now → binding find_symbol find_type symbols types path ≡ Err (TooLarge (length types.now))
  pub path : (find_symbol find_type : Finder) (symbols types path : Bor (List ℕ))
      → length symbols.now ≤ limit → length types.now ≤ limit → limit < length path.now → binding find_symbol find_type symbols types path ≡ Err (TooLarge (length path.now))

-- an address is a symbol's own: its numbers, and the name of its type
pub record IsOwn (r : AdsSymbolInfo) (at : ℕ) (a : Address) : Type 0 where
  pub group : a.group ≡ r.index_group
  pub offset : a.offset ≡ r.index_offset
  pub bit : a.bit ≡ 0
  pub size : a.size ≡ r.size
  pub unit : a.size_in_bits ≡ false
  pub type_name : a.type_name ≡ r.type_name
  pub place : a.place ≡ Symbol at

-- of a path that is all of a symbol's name, whatever bytes it has and whatever the data types are
abbrev pub SymbolAlone : Type 0
SymbolAlone =
    (mode : Mode) (find_symbol find_type : Finder) (symbols types path : Bor (List ℕ)) (at : ℕ) (r : AdsSymbolInfo)
    → length symbols.now ≤ limit → length types.now ≤ limit → length path.now ≤ limit
    → find_symbol path.now ≡ Ok at
    → at + le4 symbols.now at ≤ length symbols.now → symbol_of mode (part symbols at (le4 symbols.now at)) ≡ Ok r
    → (a : Address) × ((binding find_symbol find_type symbols types path ≡ Ok a) × IsOwn r at a)

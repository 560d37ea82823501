-- docs/FORMAT.md, "Binding": where every entry lies within its parent, an address lies within its symbol.
use Rattle.std.specs.Prelude.{ℕ, zero, suc, ◌+◌, ◌*◌, ◌/◌, ◌≤◌, ◌≡◌, Bool, true, List, ◌∷◌, ◌++◌, Ok, length, drop, if◌then◌else◌}
use Rattle.std.specs.Borrow.{Bor}
use Rattle.le.specs.Le.{le4}
use Rattle.bind.specs.declared.Address.{Address}
use Rattle.bind.specs.declared.reading.Entry.{Entry}
use Rattle.bind.specs.Reading.{behind, own_of, symbol_entry, type_entry}
use Rattle.bind.specs.Adding.{items_of}
use Rattle.bind.specs.Binding.{Finder, unit, binding}
use Rattle.bindings_meant.specs.Longest.{Answers, NamesSymbol}

-- the size of one element, by so many array records: a row of the first dimension, of that a row of the next, and so on
unfoldable pub element : ℕ → List ℕ → ℕ → ℕ
element zero arrays size = size
element (suc more) arrays size = element more (drop 8 arrays) (size / le4 arrays 4)

-- the bits of an entry, and those of one of its elements, which is all of it where it is no array
abbrev pub bits_of : Entry → ℕ
bits_of e = e.size * unit e

abbrev pub element_bits : Entry → ℕ
element_bits e = element (length e.arrays.now / 8) e.arrays.now e.size * unit e

-- a data type has the size of an element of the entry whose type it is, or less; or it says again of all of an array what the entry says
pub data Fits (e type : Entry) : Type 0 where
  element_size : bits_of type ≤ element_bits e → Fits e type
  array_again : type.arrays.now ≡ e.arrays.now → type.size ≡ e.size → type.in_bits ≡ e.in_bits → Fits e type

-- of some entries, told by a test, with which are their members and the data types of those that have no members, each member ends no further than an element of its parent, and each data type fits
pub record EachWithin (find : Finder) (types : Bor (List ℕ)) (known : Entry → Bool) : Type 0 where
  pub members : (e : Entry) (before : List (Bor (List ℕ))) (item : Bor (List ℕ)) (later : List (Bor (List ℕ))) → known e ≡ true → items_of e.items.count e.items.bytes ≡ before ++ (item ∷ later)
      → (known (type_entry item e.end) ≡ true) × (((type_entry item e.end).offset + (type_entry item e.end).size) * unit (type_entry item e.end) ≤ element_bits e)
  pub data_types : (e : Entry) (start : ℕ) → known e ≡ true → e.items.count ≡ 0 → find e.type_name.now ≡ Ok start
      → (known (type_entry (behind types start) (length types.now)) ≡ true) × Fits e (type_entry (behind types start) (length types.now))

-- an address lies in an index group between two offsets in bytes, with all of its size
pub record LiesWithin (group from to : ℕ) (a : Address) : Type 0 where
  pub in_group : a.group ≡ record { 0 = group }
  pub begins : 8 * from ≤ 8 * a.offset.0 + a.bit
  pub ends : 8 * a.offset.0 + a.bit + a.size * (if a.size_in_bits then 1 else 8) ≤ 8 * to

-- the address of a path lies within the symbol with whose name the path begins, by that symbol's own bytes
abbrev pub AddressWithin : Type 0
AddressWithin =
    (find_symbol find_type : Finder) (symbols types path : Bor (List ℕ)) (known : Entry → Bool) (symbol : ℕ × ℕ) (a : Address)
    → EachWithin find_type types known
    → NamesSymbol (Answers find_symbol) path.now symbol → known (symbol_entry symbols symbol.1) ≡ true
    → binding find_symbol find_type symbols types path ≡ Ok a
    → let own : List ℕ = (own_of (behind symbols symbol.1)).now in LiesWithin (le4 own 4) (le4 own 8) (le4 own 8 + le4 own 12) a

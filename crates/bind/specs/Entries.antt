-- docs/FORMAT.md, "Binding": the entries of small controllers, byte by byte, and what an address tells, for the cases of Rig and Edges.
use Rattle.std.specs.Prelude.{ℕ, ◌+◌, Bool, true, false, List, [], ◌∷◌, ◌++◌, replicate, length, Result, Ok, Err, if◌then◌else◌}
use Rattle.std.specs.List.{flat_map}
use Rattle.std.specs.Borrow.{Bor}
use Rattle.le.specs.Le.{bytes2, bytes4}
use Rattle.names.specs.Names.{same_name}
use Rattle.refusal.specs.declared.Refusal.{Refusal}
use Rattle.refusal.specs.declared.Refusal.TheVariants.{NameNotFound}
use Rattle.walk.specs.Mapped.{map_ok}
use Rattle.bind.specs.declared.Address.{Address}
use Rattle.bind.specs.declared.reading.Place.{Place}
use Rattle.bind.specs.Binding.{Finder, binding}

-- a symbol of a name, a type, a comment, an index group, an index offset, a size and flags
abbrev pub symbol : List ℕ → List ℕ → List ℕ → ℕ → ℕ → ℕ → ℕ → List ℕ
symbol name type comment group offset size flags =
    bytes4 (33 + length name + length type + length comment) ++ bytes4 group ++ bytes4 offset ++ bytes4 size ++ replicate 4 0 ++ bytes2 flags ++ replicate 2 0
    ++ bytes2 (length name) ++ bytes2 (length type) ++ bytes2 (length comment) ++ name ++ 0 ∷ type ++ 0 ∷ comment ++ 0 ∷ []

-- array records, each of a lower bound and a number of elements
abbrev records : List (ℕ × ℕ) → List ℕ
records arrays = flat_map (λ a. bytes4 a.0 ++ bytes4 a.1) arrays

-- a data type, or a member, of a name, a type, a comment, a size, an offset and flags, with array records and sub-items
abbrev pub entry : List ℕ → List ℕ → List ℕ → ℕ → ℕ → ℕ → List (ℕ × ℕ) → List (List ℕ) → List ℕ
entry name type comment size offset flags arrays items =
    bytes4 (45 + length name + length type + length comment + length (records arrays) + length (flat_map (λ i. i) items)) ++ replicate 12 0
    ++ bytes4 size ++ bytes4 offset ++ replicate 4 0 ++ bytes4 flags
    ++ bytes2 (length name) ++ bytes2 (length type) ++ bytes2 (length comment) ++ bytes2 (length arrays) ++ bytes2 (length items)
    ++ name ++ 0 ∷ type ++ 0 ∷ comment ++ 0 ∷ [] ++ records arrays ++ flat_map (λ i. i) items

-- the first of a name in a list of names, each with where its entry starts
abbrev pub start_of : List (List ℕ × ℕ) → Finder
start_of [] name = Err NameNotFound
start_of (s ∷ more) name = if same_name s.0 name then Ok s.1 else start_of more name

-- what an address tells
pub record Told : Type 0 where
  pub group : ℕ
  pub offset : ℕ
  pub bit : ℕ
  pub size : ℕ
  pub size_in_bits : Bool
  pub type_name : List ℕ
  pub place : Place

abbrev told_of : Address → Told
told_of a = record { group = a.group.0; offset = a.offset.0; bit = a.bit; size = a.size; size_in_bits = a.size_in_bits; type_name = a.type_name.now; place = a.place }

-- of a size in bytes; and in bits
abbrev pub at : ℕ → ℕ → ℕ → ℕ → List ℕ → Place → Result Told Refusal
at group offset bit size type_name place = Ok (record { group = group; offset = offset; bit = bit; size = size; size_in_bits = false; type_name = type_name; place = place })

abbrev pub bits_at : ℕ → ℕ → ℕ → ℕ → List ℕ → Place → Result Told Refusal
bits_at group offset bit size type_name place = Ok (record { group = group; offset = offset; bit = bit; size = size; size_in_bits = true; type_name = type_name; place = place })

-- bytes that lie anywhere
abbrev lying : ℕ × ℕ → List ℕ → Bor (List ℕ)
lying there s = record { ref_ptr = there; now = s }

-- the symbols and the data types of a controller, by their bytes and where each starts
pub record Controller : Type 0 where
  pub symbols : List ℕ
  pub symbol_starts : List (List ℕ × ℕ)
  pub types : List ℕ
  pub type_starts : List (List ℕ × ℕ)

abbrev pub leads_in : Controller → List ℕ → Result Told Refusal
leads_in c path = map_ok told_of (binding (start_of c.symbol_starts) (start_of c.type_starts) (lying (0, 0) c.symbols) (lying (1, 0) c.types) (lying (2, 0) path))

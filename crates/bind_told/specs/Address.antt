-- docs/FORMAT.md, "Binding": what the slots of an address hold, in order, and the address that is told of two uploads with the slots of their name indexes.
use Rattle.std.specs.Prelude.{ℕ, ◌+◌, min, List, [], ◌∷◌, length, Result}
use Rattle.std.specs.Borrow.{Bor}
use Rattle.le.specs.Le.{le2}
use Rattle.part.specs.Slice.{after}
use Rattle.refusal.specs.declared.Mode.{Mode}
use Rattle.refusal.specs.declared.Refusal.{Refusal}
use Rattle.told.specs.Slots.{bit}
use Rattle.bind.specs.declared.Address.{Address}
use Rattle.bind.specs.declared.Upload.{Upload}
use Rattle.bind.specs.declared.reading.Place.{Place}
use Rattle.bind.specs.declared.reading.Place.TheVariants.{Symbol, DataType}
use Rattle.bind.specs.Found.{symbol_found, type_found}
use Rattle.bind.specs.Binding.{binding}

-- which upload the entry stands in, 0 of symbols and 1 of data types, and where it starts there
abbrev pub upload_of : Place → ℕ
upload_of (Symbol at) = 0
upload_of (DataType at) = 1

abbrev pub start_of : Place → ℕ
start_of (Symbol at) = at
start_of (DataType at) = at

abbrev pub behind : Bor (List ℕ) → ℕ → Bor (List ℕ)
behind s at = after s (min at (length s.now))

-- where in the entry its type's name stands: behind the name, whose length the header has, and its end byte
abbrev pub type_name_at : Bor (List ℕ) → Bor (List ℕ) → Place → ℕ
type_name_at symbols types (Symbol at) = 31 + le2 (behind symbols at).now 24
type_name_at symbols types (DataType at) = 43 + le2 (behind types at).now 32

unfoldable pub address_slots : Bor (List ℕ) → Bor (List ℕ) → Address → List ℕ
address_slots symbols types a =
    a.group.0
    ∷ a.offset.0
    ∷ a.bit
    ∷ a.size
    ∷ bit a.size_in_bits
    ∷ upload_of a.place
    ∷ start_of a.place
    ∷ type_name_at symbols types a.place
    ∷ length a.type_name.now
    ∷ []

-- the address of a path, through any slots
abbrev pub bound : Mode → Upload → Upload → Bor (List ℕ) → Result Address Refusal
bound mode symbols types path = binding (symbol_found mode symbols) (type_found mode types) symbols.bytes types.bytes path

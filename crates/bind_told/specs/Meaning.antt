-- docs/FORMAT.md, "Binding" and "Refusals": what a call says of an address, slot by slot, as bindings/c/vindaskot.h numbers them, and of a path that has none.
use Rattle.std.specs.Prelude.{ℕ, ◌+◌, ◌≤◌, ◌≡◌, Bool, true, false, List, [], ◌∷◌, get_or, length, Ok, Err}
use Rattle.std.specs.Borrow.{Bor}
use Rattle.le.specs.Le.{le4}
use Rattle.part.specs.Slice.{part}
use Rattle.refusal.specs.Refusal.{figures_of}
use Rattle.refusal.specs.declared.Mode.{Mode}
use Rattle.refusal.specs.declared.Refusal.{Refusal}
use Rattle.symbol.specs.declared.AdsSymbolInfo.{AdsSymbolInfo}
use Rattle.symbol.specs.Symbol.{symbol_of}
use Rattle.field.specs.declared.AdsFieldInfo.{AdsFieldInfo}
use Rattle.field.specs.Field.{field_of}
use Rattle.told.specs.Told.{Tells, record_told}
use Rattle.told.specs.Slots.{slots_after}
use Rattle.bind.specs.declared.Address.{Address}
use Rattle.bind.specs.declared.reading.Place.{Place}
use Rattle.bind.specs.declared.reading.Place.TheVariants.{Symbol, DataType}
use Rattle.bind_told.specs.Address.{address_slots}

-- 1 for true
abbrev pub IsFlag : Bool → ℕ → Type 0
IsFlag true n = n ≡ 1
IsFlag false n = n ≡ 0

-- 0 and where a symbol starts; 1 and where a data type, or a member, does
abbrev pub IsEntry : Place → ℕ → ℕ → Type 0
IsEntry (Symbol at) upload start = (upload ≡ 0) × (start ≡ at)
IsEntry (DataType at) upload start = (upload ≡ 1) × (start ≡ at)

-- each slot, and no more of them
pub record AddressTold (a : Address) (slots : List ℕ) : Type 0 where
  pub group : get_or slots 0 0 ≡ a.group.0
  pub offset : get_or slots 1 0 ≡ a.offset.0
  pub bit : get_or slots 2 0 ≡ a.bit
  pub size : get_or slots 3 0 ≡ a.size
  pub size_in_bits : IsFlag a.size_in_bits (get_or slots 4 0)
  pub entry : IsEntry a.place (get_or slots 5 0) (get_or slots 6 0)
  pub type_name_len : get_or slots 8 0 ≡ length a.type_name.now
  pub all : length slots ≡ 9

-- behind the entry's start, in its upload, by the two slots before the length and the length, the name of the type stands: that of a symbol, and of a data type or of a
-- member, as their readers tell it of the entry's bytes
pub record TypeNameTold (symbols types : Bor (List ℕ)) (a : Address) (slots : List ℕ) : Type 0 where
  pub of_symbol : (mode : Mode) (at : ℕ) (r : AdsSymbolInfo) → at + le4 symbols.now at ≤ length symbols.now → symbol_of mode (part symbols at (le4 symbols.now at)) ≡ Ok r
      → a.place ≡ Symbol at → a.type_name ≡ r.type_name → part symbols (get_or slots 6 0 + get_or slots 7 0) (get_or slots 8 0) ≡ a.type_name
  pub of_field : (mode : Mode) (at : ℕ) (r : AdsFieldInfo) → at + le4 types.now at ≤ length types.now → field_of mode (part types at (le4 types.now at)) ≡ Ok r
      → a.place ≡ DataType at → a.type_name ≡ r.type_name → part types (get_or slots 6 0 + get_or slots 7 0) (get_or slots 8 0) ≡ a.type_name

-- an address is told in the slots, and by 0 that it was found; a refusal by its number and figures, and the slots stay
pub record CallTold (symbols types : Bor (List ℕ)) : Type 0 where
  pub found : (a : Address) (status : ℕ) (answer old : List ℕ) → Tells (record_told (Ok a)) status answer
      → (status ≡ 0) × (answer ≡ 0 ∷ 0 ∷ []) × AddressTold a (slots_after (address_slots symbols types) (Ok a) old) × TypeNameTold symbols types a (slots_after (address_slots symbols types) (Ok a) old)
  pub refused : (why : Refusal) (status : ℕ) (answer old : List ℕ) → Tells (record_told {A = Address} (Err why)) status answer
      → (status ≡ (figures_of why).number) × (answer ≡ (figures_of why).expected ∷ (figures_of why).got ∷ []) × (slots_after (address_slots symbols types) (Err why) old ≡ old)

abbrev pub AddressesTold : Type 0
AddressesTold = (symbols types : Bor (List ℕ)) → CallTold symbols types

-- docs/FORMAT.md, "Binding": what a part of a path adds to the place where it has led, by the bytes of the entries.
use Rattle.std.specs.Prelude.{ℕ, zero, suc, ◌+◌, ◌*◌, ◌/◌, ◌<◌, ◌≤◌, ◌≡◌, true, false, List, [], ◌∷◌, ◌++◌, Ok}
use Rattle.std.specs.Borrow.{Bor}
use Rattle.le.specs.Le.{le4, has}
use Rattle.names.specs.Meaning.{SameLetters}
use Rattle.path.specs.declared.Subscript.{Subscript}
use Rattle.bind.specs.declared.steps.Here.{Here}
use Rattle.bind.specs.Reading.{behind, own_of, name_of}
use Rattle.bind.specs.Binding.{Finder, unit, to_member, to_element, settled}

-- how many bits from the start of the group a path has led
abbrev pub bits : Here → ℕ
bits h = 8 * h.offset + h.bit

-- so many sub-items one behind another, each from its start on: an entry is as long as it claims
unfoldable pub items_of : ℕ → Bor (List ℕ) → List (Bor (List ℕ))
items_of zero s = []
items_of (suc n) s = s ∷ items_of n (behind s (le4 s.now 0))

-- none of some sub-items has a name
pub data NoneNamed (name : List ℕ) : List (Bor (List ℕ)) → Type 0 where
  none : NoneNamed name []
  other : {item : Bor (List ℕ)} {more : List (Bor (List ℕ))} → ¬ SameLetters (name_of item).now name → NoneNamed name more → NoneNamed name (item ∷ more)

-- the first sub-item that has the name, letter by letter; its offset is added, in bytes, or in bits if it says so. It is no reference, no property and not static
pub record IsMember (here : Here) (name : List ℕ) (there : Here) : Type 0 where
  pub before : List (Bor (List ℕ))
  pub item : Bor (List ℕ)
  pub later : List (Bor (List ℕ))
  pub among : items_of here.entry.items.count here.entry.items.bytes ≡ before ++ (item ∷ later)
  pub first : NoneNamed name before
  pub same : SameLetters (name_of item).now name
  pub in_bytes : has (le4 (own_of item).now 28) 0x20 ≡ false → bits there ≡ bits here + 8 * le4 (own_of item).now 20
  pub in_bits : has (le4 (own_of item).now 28) 0x20 ≡ true → bits there ≡ bits here + le4 (own_of item).now 20
  pub size : there.size ≡ le4 (own_of item).now 16
  pub size_in_bits : there.entry.in_bits ≡ has (le4 (own_of item).now 28) 0x20
  pub reference : has (le4 (own_of item).now 28) 0x4 ≡ false
  pub property : has (le4 (own_of item).now 28) 0x40 ≡ false
  pub static_member : has (le4 (own_of item).now 28) 0x20000 ≡ false

-- a number of 32 bits with a sign, as it stands without one, and so much more, is a number with its sign
pub data IsAbove (lower index : ℕ) : Subscript → Type 0 where
  from_0 : {m : ℕ} → lower < 2147483648 → m ≡ lower + index → IsAbove lower index (record { negative = false; magnitude = m })
  over_0 : {m : ℕ} → 2147483648 ≤ lower → m + 4294967296 ≡ lower + index → IsAbove lower index (record { negative = false; magnitude = m })
  below_0 : {m : ℕ} → 2147483648 ≤ lower → 4294967296 ≡ lower + index + m → IsAbove lower index (record { negative = true; magnitude = m })
  minus_0 : {m : ℕ} → lower ≡ 0 → index ≡ 0 → m ≡ 0 → IsAbove lower index (record { negative = true; magnitude = m })

-- an element of the first dimension that is left: its number is the lower bound and an index below the number of elements, and that many rows are added, of one size each
pub record IsElement (here : Here) (n : Subscript) (there : Here) : Type 0 where
  pub index : ℕ
  pub inside : index < le4 here.left.now 4
  pub is : le4 here.left.now 0 < 4294967296 → IsAbove (le4 here.left.now 0) index n
  pub size : there.size ≡ here.size / le4 here.left.now 4
  pub adds : bits there ≡ bits here + index * there.size * unit here.entry
  pub left : there.left ≡ behind here.left 8

-- a data type that takes an entry's place adds nothing
pub record StepsAdd : Type 0 where
  pub member : (here there : Here) (name : List ℕ) (at : ℕ) → to_member here name at ≡ Ok there → IsMember here name there
  pub element : (here there : Here) (n : Subscript) (at : ℕ) → to_element here n at ≡ Ok there → IsElement here n there
  pub data_type : (find : Finder) (types : Bor (List ℕ)) (most : ℕ) (here there : Here) (at : ℕ) → settled find types most here at ≡ Ok there → bits there ≡ bits here

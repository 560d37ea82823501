-- docs/FORMAT.md, "Name index". The order of names and of starts, said of their letters.
use Rattle.std.specs.Prelude.{ℕ, ◌+◌, ◌<◌, ◌≤◌, ◌≡◌, true, List, [], ◌∷◌, AllPairs}
use Rattle.std.specs.declared.cmp.Ordering.TheVariants.{Less}
use Rattle.std.specs.List.Sorted.{IsSortedBy}
use Rattle.le.specs.Le.{le2, part}
use Rattle.names.specs.Meaning.{SameLetter, SameLetters}
use Rattle.name_order.specs.declared.places.NamePlaces.{NamePlaces}
use Rattle.name_order.specs.Order.{name_cmp, goes_first}

-- a byte in small letters: of A to Z the same letter of a to z, every other itself
pub data Small : ℕ → ℕ → Type 0 where
  letter : {b : ℕ} → 65 ≤ b → b ≤ 90 → Small b (b + 32)
  below : {b : ℕ} → b < 65 → Small b b
  above : {b : ℕ} → 90 < b → Small b b

-- the one name ends first, or at the first letters that are not the same its own is the lower, in small letters
pub data ComesFirst : List ℕ → List ℕ → Type 0 where
  ended : {y : ℕ} {other : List ℕ} → ComesFirst [] (y ∷ other)
  lower : {x y a b : ℕ} {own other : List ℕ} → Small x a → Small y b → a < b → ComesFirst (x ∷ own) (y ∷ other)
  later : {x y : ℕ} {own other : List ℕ} → SameLetter x y → ComesFirst own other → ComesFirst (x ∷ own) (y ∷ other)

-- the name that stands at an entry's places
abbrev pub name_there : NamePlaces → List ℕ → ℕ → List ℕ
name_there w s at = part s (at + w.name) (le2 s (at + w.length))

-- of two starts the one whose name comes first, or, where the names are the same, the lower
pub data StartsFirst (w : NamePlaces) (s : List ℕ) (a b : ℕ) : Type 0 where
  by_name : ComesFirst (name_there w s a) (name_there w s b) → StartsFirst w s a b
  by_start : SameLetters (name_there w s a) (name_there w s b) → a < b → StartsFirst w s a b

-- none of some starts comes first before one that stands before it
abbrev pub IsInNameOrder : NamePlaces → List ℕ → List ℕ → Type 0
IsInNameOrder w s starts = AllPairs (λ a b. ¬ StartsFirst w s b a) starts

pub record OrderMeant : Type 0 where
  pub names : (own other : List ℕ) → (name_cmp own other ≡ Less → ComesFirst own other) × (ComesFirst own other → name_cmp own other ≡ Less)
  pub starts : (w : NamePlaces) (s : List ℕ) (a b : ℕ) → (goes_first w s a b ≡ true → StartsFirst w s a b) × (StartsFirst w s a b → goes_first w s a b ≡ true)
  pub sorted : (w : NamePlaces) (s starts : List ℕ) → (IsSortedBy (goes_first w s) starts → IsInNameOrder w s starts) × (IsInNameOrder w s starts → IsSortedBy (goes_first w s) starts)

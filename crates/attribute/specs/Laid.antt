-- docs/FORMAT.md, "Attributes": the attribute at the start of some bytes, by the bytes: the length of its name at 0, that of its value at 1, the name from 2 on,
-- an end byte, the value, an end byte.
use Rattle.std.specs.Prelude.{ℕ, suc, ◌+◌, ◌≤◌, List, length, get_or, drop}
use Rattle.std.specs.Borrow.{Bor}
use Rattle.part.specs.Slice.{part}
use Rattle.attribute.specs.declared.AdsAttribute.{AdsAttribute}

abbrev pub name_length : List ℕ → ℕ
name_length s = get_or s 0 0

abbrev pub value_length : List ℕ → ℕ
value_length s = get_or s 1 0

abbrev pub size : List ℕ → ℕ
size s = 4 + name_length s + value_length s

-- the places of its two end bytes, and what stands there
abbrev pub name_end : List ℕ → ℕ
name_end s = 2 + name_length s

abbrev pub value_end : List ℕ → ℕ
value_end s = 3 + name_length s + value_length s

abbrev pub byte : List ℕ → ℕ → ℕ
byte s at = get_or s at 0

-- its strings
abbrev pub parts : Bor (List ℕ) → AdsAttribute
parts s = record { name = part s 2 (name_length s.now); value = part s (3 + name_length s.now) (value_length s.now) }

-- of whole attributes one behind another, from a place on: where one begins before which so many stand
pub data Stands (s : List ℕ) : ℕ → ℕ → ℕ → Type 0 where
  here : {at : ℕ} → Stands s at at 0
  behind : {from at before : ℕ} → size (drop from s) ≤ length (drop from s) → Stands s (from + size (drop from s)) at before → Stands s from at (suc before)

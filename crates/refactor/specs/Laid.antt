-- docs/FORMAT.md, "Refactor records": the record at the start of some bytes, by the bytes: the packed count at 0, the length of the name at 4, the name from 6 on, an
-- end byte.
use Rattle.std.specs.Prelude.{ℕ, suc, ◌+◌, ◌≤◌, ◌≡◌, Bool, true, List, eqb, length, get_or, bit_and, drop}
use Rattle.std.specs.Borrow.{Bor}
use Rattle.le.specs.Le.{le2, le4}
use Rattle.part.specs.Slice.{part}
use Rattle.refactor.specs.declared.AdsRefactorInfo.{AdsRefactorInfo}

abbrev pub name_length : List ℕ → ℕ
name_length s = le2 s 4

abbrev pub size : List ℕ → ℕ
size s = 7 + name_length s

-- the place of its end byte, and what stands there
abbrev pub name_end : List ℕ → ℕ
name_end s = 6 + name_length s

abbrev pub byte : List ℕ → ℕ → ℕ
byte s at = get_or s at 0

-- the count within its mask, and the bit that says that another record follows
abbrev pub counted : List ℕ → ℕ
counted s = bit_and (le4 s 0) 0x01111111

abbrev pub followed : List ℕ → Bool
followed s = eqb (bit_and (le4 s 0) 0x01000000) 0x01000000

abbrev pub parts : Bor (List ℕ) → AdsRefactorInfo
parts s = record { refactor_count = counted s.now; next_refactor_info = followed s.now; name = part s 6 (name_length s.now) }

-- of the records of a chain, from a place on: where one begins before which so many stand, each whole and with the follower's bit
pub data Stands (s : List ℕ) : ℕ → ℕ → ℕ → Type 0 where
  here : {at : ℕ} → Stands s at at 0
  behind : {from at before : ℕ} → size (drop from s) ≤ length (drop from s) → followed (drop from s) ≡ true → Stands s (from + size (drop from s)) at before → Stands s from at (suc before)

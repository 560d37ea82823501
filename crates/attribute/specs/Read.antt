-- docs/FORMAT.md, "Attributes", "Direct reading" and "Modes": what is read of an attribute, by its bytes.
use Rattle.std.specs.Prelude.{ℕ, ◌+◌, ◌<◌, ◌≤◌, ◌≡◌, ◌⊎◌, List, Some, Result, Ok, Err, slice_get, length, drop}
use Rattle.std.specs.Borrow.{Bor}
use Rattle.part.specs.Slice.{after}
use Rattle.refusal.specs.EndBytes.{ended}
use Rattle.refusal.specs.declared.Mode.{Mode}
use Rattle.refusal.specs.declared.Mode.TheVariants.{Present, Checked}
use Rattle.refusal.specs.declared.Refusal.{Refusal}
use Rattle.refusal.specs.declared.Refusal.TheVariants.{UnexpectedLength, TooShort, TooLarge, EndByte}
use Rattle.attribute.specs.Attribute.{first_of, listed, after_listed, alone, ends}
use Rattle.attribute.specs.Laid.{size, name_end, value_end, byte, parts, Stands}

-- one at the start of some bytes, and the bytes after it: under 4 bytes 2, under the whole 1
pub data First (s : Bor (List ℕ)) : Type 0 where
  first_short : length s.now < 4 → first_of s ≡ Err (TooShort 4 (length s.now)) → First s
  first_cut : 4 ≤ length s.now → length s.now < size s.now → first_of s ≡ Err (UnexpectedLength (size s.now) (length s.now)) → First s
  first_whole : size s.now ≤ length s.now → first_of s ≡ Ok (parts s, after s (size s.now)) → First s

-- one that is read alone: 5, 2, 1, and in the checked mode 16 for the name's end byte, then for the value's
pub data Alone (mode : Mode) (s : Bor (List ℕ)) : Type 0 where
  too_large : 16777216 < length s.now → alone mode s ≡ Err (TooLarge (length s.now)) → Alone mode s
  short : length s.now < 4 → alone mode s ≡ Err (TooShort 4 (length s.now)) → Alone mode s
  cut : length s.now ≤ 16777216 → 4 ≤ length s.now → length s.now < size s.now → alone mode s ≡ Err (UnexpectedLength (size s.now) (length s.now)) → Alone mode s
  name_refused : length s.now ≤ 16777216 → size s.now ≤ length s.now → mode ≡ Checked → (byte s.now (name_end s.now) ≡ 0 → ⊥)
      → alone mode s ≡ Err (EndByte (name_end s.now) (byte s.now (name_end s.now))) → Alone mode s
  value_refused : length s.now ≤ 16777216 → size s.now ≤ length s.now → mode ≡ Checked → byte s.now (name_end s.now) ≡ 0 → (byte s.now (value_end s.now) ≡ 0 → ⊥)
      → alone mode s ≡ Err (EndByte (value_end s.now) (byte s.now (value_end s.now))) → Alone mode s
  accepted : length s.now ≤ 16777216 → size s.now ≤ length s.now → (mode ≡ Present) ⊎ ((byte s.now (name_end s.now) ≡ 0) × (byte s.now (value_end s.now) ≡ 0))
      → alone mode s ≡ Ok (parts s) → Alone mode s

-- 0 stands behind both strings of each of the first so many attributes from a place on
abbrev pub Ended : List ℕ → ℕ → ℕ → Type 0
Ended s from most = (at before : ℕ) → Stands s from at before → before < most → size (drop at s) ≤ length (drop at s)
    → (byte (drop at s) (name_end (drop at s)) ≡ 0) × (byte (drop at s) (value_end (drop at s)) ≡ 0)

-- the end bytes of at most so many attributes from a place on, where place 0 is this one of an entry: 16 for the first that is not 0, a name's before its value's,
-- whatever stands behind it; where an attribute is refused, no end byte behind it is looked at
pub data EndsRead (s : List ℕ) (place from most : ℕ) (r : Result Unit Refusal) : Type 0 where
  all_zero : Ended s from most → r ≡ Ok tt → EndsRead s place from most r
  at_name : (at before : ℕ) → Stands s from at before → before < most → size (drop at s) ≤ length (drop at s) → Ended s from before → (byte (drop at s) (name_end (drop at s)) ≡ 0 → ⊥)
      → r ≡ Err (EndByte (place + at + name_end (drop at s)) (byte (drop at s) (name_end (drop at s)))) → EndsRead s place from most r
  at_value : (at before : ℕ) → Stands s from at before → before < most → size (drop at s) ≤ length (drop at s) → Ended s from before → byte (drop at s) (name_end (drop at s)) ≡ 0
      → (byte (drop at s) (value_end (drop at s)) ≡ 0 → ⊥)
      → r ≡ Err (EndByte (place + at + value_end (drop at s)) (byte (drop at s) (value_end (drop at s)))) → EndsRead s place from most r

-- at most so many are listed, up to one that is not whole: where they end, how many they are, and each of them
pub record IsListed (s : Bor (List ℕ)) (count : ℕ) : Type 0 where
  pub end : ℕ
  pub many : ℕ
  pub stands : Stands s.now 0 end many
  pub most : many ≤ count
  pub ends : (many ≡ count) ⊎ (length (drop end s.now) < size (drop end s.now))
  pub long : length (listed s count) ≡ many
  pub rest : after_listed s count ≡ after s end
  pub each : (at before : ℕ) → Stands s.now 0 at before → before < many → slice_get (listed s count) before ≡ Some (parts (after s at))

pub record AttributesRead : Type 0 where
  pub first : (s : Bor (List ℕ)) → First s
  pub alone : (mode : Mode) (s : Bor (List ℕ)) → Alone mode s
  pub listed : (s : Bor (List ℕ)) (count : ℕ) → IsListed s count
  pub ends : (s : Bor (List ℕ)) (place count : ℕ) → EndsRead s.now place 0 count (ended (ends s place count))

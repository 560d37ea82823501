-- docs/FORMAT.md, "Refactor records", "Direct reading" and "Modes": what is read of a refactor record and of a chain, by their bytes.
use Rattle.std.specs.Prelude.{ℕ, suc, ◌+◌, ◌<◌, ◌≤◌, ◌≡◌, ◌⊎◌, false, List, Some, Result, Ok, Err, slice_get, length, drop}
use Rattle.std.specs.Borrow.{Bor}
use Rattle.part.specs.Slice.{after}
use Rattle.refusal.specs.EndBytes.{ended}
use Rattle.refusal.specs.declared.Mode.{Mode}
use Rattle.refusal.specs.declared.Mode.TheVariants.{Present, Checked}
use Rattle.refusal.specs.declared.Refusal.{Refusal}
use Rattle.refusal.specs.declared.Refusal.TheVariants.{TooShort, TooLarge, EndByte}
use Rattle.refactor.specs.Refactor.{first_of, infos_of, alone, chain_alone, listed, ends}
use Rattle.refactor.specs.Laid.{size, name_end, byte, followed, parts, Stands}

-- one at the start of some bytes, and the bytes after it: 2 under 7 bytes, and under the whole
pub data First (s : Bor (List ℕ)) : Type 0 where
  first_short : length s.now < 7 → first_of s ≡ Err (TooShort 7 (length s.now)) → First s
  first_cut : 7 ≤ length s.now → length s.now < size s.now → first_of s ≡ Err (TooShort (size s.now) (length s.now)) → First s
  first_whole : size s.now ≤ length s.now → first_of s ≡ Ok (parts s, after s (size s.now)) → First s

-- one that is read alone: 5, 2, and in the checked mode 16
pub data Alone (mode : Mode) (s : Bor (List ℕ)) : Type 0 where
  too_large : 16777216 < length s.now → alone mode s ≡ Err (TooLarge (length s.now)) → Alone mode s
  short : length s.now < 7 → alone mode s ≡ Err (TooShort 7 (length s.now)) → Alone mode s
  cut : length s.now ≤ 16777216 → 7 ≤ length s.now → length s.now < size s.now → alone mode s ≡ Err (TooShort (size s.now) (length s.now)) → Alone mode s
  name_refused : length s.now ≤ 16777216 → size s.now ≤ length s.now → mode ≡ Checked → (byte s.now (name_end s.now) ≡ 0 → ⊥)
      → alone mode s ≡ Err (EndByte (name_end s.now) (byte s.now (name_end s.now))) → Alone mode s
  accepted : length s.now ≤ 16777216 → size s.now ≤ length s.now → (mode ≡ Present) ⊎ (byte s.now (name_end s.now) ≡ 0) → alone mode s ≡ Ok (parts s) → Alone mode s

-- a chain is its records up to the first without the follower's bit; where one of them is refused, the chain is, by the figures of that record
pub data Chain (s : Bor (List ℕ)) : Type 0 where
  chain_short : (at before : ℕ) → Stands s.now 0 at before → length (drop at s.now) < 7 → infos_of s ≡ Err (TooShort 7 (length (drop at s.now))) → Chain s
  chain_cut : (at before : ℕ) → Stands s.now 0 at before → 7 ≤ length (drop at s.now) → length (drop at s.now) < size (drop at s.now)
      → infos_of s ≡ Err (TooShort (size (drop at s.now)) (length (drop at s.now))) → Chain s
  chain_whole : (at before : ℕ) → Stands s.now 0 at before → size (drop at s.now) ≤ length (drop at s.now) → followed (drop at s.now) ≡ false
      → infos_of s ≡ Ok (record { bytes = s; count = suc before }, after s (at + size (drop at s.now))) → Chain s

-- 0 stands behind the name of each record of a chain from a place on, and of each of the first so many
abbrev pub AllEnded : List ℕ → ℕ → Type 0
AllEnded s from = (at before : ℕ) → Stands s from at before → size (drop at s) ≤ length (drop at s) → byte (drop at s) (name_end (drop at s)) ≡ 0

abbrev pub Ended : List ℕ → ℕ → ℕ → Type 0
Ended s from most = (at before : ℕ) → Stands s from at before → before < most → size (drop at s) ≤ length (drop at s) → byte (drop at s) (name_end (drop at s)) ≡ 0

-- the end bytes of a chain, where place 0 is this one of an entry: 16 for the first that is not 0, whatever stands behind it; where a record is refused, no end byte
-- behind it is looked at
pub data EndsRead (s : List ℕ) (place from : ℕ) (r : Result Unit Refusal) : Type 0 where
  all_zero : AllEnded s from → r ≡ Ok tt → EndsRead s place from r
  at_name : (at before : ℕ) → Stands s from at before → size (drop at s) ≤ length (drop at s) → Ended s from before → (byte (drop at s) (name_end (drop at s)) ≡ 0 → ⊥)
      → r ≡ Err (EndByte (place + at + name_end (drop at s)) (byte (drop at s) (name_end (drop at s)))) → EndsRead s place from r

-- a chain that is read alone: 5, in the checked mode the end byte that refuses it, and then as in an entry
pub data ChainAlone (mode : Mode) (s : Bor (List ℕ)) : Type 0 where
  chain_large : 16777216 < length s.now → chain_alone mode s ≡ Err (TooLarge (length s.now)) → ChainAlone mode s
  chain_present : length s.now ≤ 16777216 → mode ≡ Present → chain_alone mode s ≡ infos_of s → ChainAlone mode s
  chain_refused : length s.now ≤ 16777216 → mode ≡ Checked → (why : Refusal) → ended (ends s 0) ≡ Err why → chain_alone mode s ≡ Err why → ChainAlone mode s
  chain_ended : length s.now ≤ 16777216 → mode ≡ Checked → ended (ends s 0) ≡ Ok tt → chain_alone mode s ≡ infos_of s → ChainAlone mode s

pub record RefactorsRead : Type 0 where
  pub first : (s : Bor (List ℕ)) → First s
  pub alone : (mode : Mode) (s : Bor (List ℕ)) → Alone mode s
  pub chain : (s : Bor (List ℕ)) → Chain s
  pub ends : (s : Bor (List ℕ)) (place : ℕ) → EndsRead s.now place 0 (ended (ends s place))
  pub chain_alone : (mode : Mode) (s : Bor (List ℕ)) → ChainAlone mode s
  pub listed : (s : Bor (List ℕ)) (count at before : ℕ) → Stands s.now 0 at before → before < count → size (drop at s.now) ≤ length (drop at s.now)
      → slice_get (listed s count) before ≡ Some (parts (after s at))

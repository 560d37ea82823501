-- docs/FORMAT.md, "Modes" and "Fit records": a refactor record and a chain in the two modes, by their bytes; what is written behind a count is read back.
use Rattle.std.specs.Prelude.{ℕ, ◌+◌, ◌<◌, ◌≤◌, ◌≡◌, List, Ok, Err, length, get_or, drop}
use Rattle.std.specs.Borrow.{Bor}
use Rattle.le.specs.Le.{le2}
use Rattle.part.specs.Slice.{after}
use Rattle.refusal.specs.Refusal.{limit}
use Rattle.refusal.specs.declared.Mode.{Mode}
use Rattle.refusal.specs.declared.Mode.TheVariants.{Present, Checked}
use Rattle.refusal.specs.declared.Refusal.{Refusal}
use Rattle.refusal.specs.declared.Refusal.TheVariants.{TooLarge, NoSuchNumber, EndByte}
use Rattle.refactor.specs.declared.AdsRefactorInfo.{AdsRefactorInfo}
use Rattle.refactor.specs.declared.RefactorInfos.{RefactorInfos}
use Rattle.refactor.specs.Refactor.{alone, chain_alone, listed, numbered}
use Rattle.refactor.specs.Laid.{size, name_end, byte, Stands}
use Rattle.refactor.specs.Read.{AllEnded, Ended}
use Rattle.refactor.specs.Told.{told}
use Rattle.refactor.specs.Writing.{entries_writing}

-- the end byte of a record that stands at the start of some bytes
abbrev pub end_byte : Bor (List ℕ) → AdsRefactorInfo → ℕ
end_byte q r = get_or q.now (6 + length r.name.now) 0

-- read alone: the checked mode accepts exactly what the present mode accepts and is ended by 0, and reads it alike; what the present mode refuses it refuses
-- alike; anything else it refuses by the end byte
pub record Modes (s : Bor (List ℕ)) : Type 0 where
  pub ended : (r : AdsRefactorInfo) → alone Checked s ≡ Ok r → (alone Present s ≡ Ok r) × (end_byte s r ≡ 0)
  pub agree : (r : AdsRefactorInfo) → alone Present s ≡ Ok r → end_byte s r ≡ 0 → alone Checked s ≡ Ok r
  pub refused_alike : (why : Refusal) → alone Present s ≡ Err why → alone Checked s ≡ Err why
  pub first : (r : AdsRefactorInfo) → alone Present s ≡ Ok r → (end_byte s r ≡ 0 → ⊥) → alone Checked s ≡ Err (EndByte (6 + length r.name.now) (end_byte s r))

abbrev pub RefactorsModes : Type 0
RefactorsModes = (s : Bor (List ℕ)) → Modes s

-- a chain read alone: the modes agree where every record that it meets is ended, also where one is refused, and the checked mode accepts nothing else; bytes
-- beyond the limit are refused first, in either; else the first end byte that is not 0 refuses, whatever stands behind it
pub record ChainModes (s : Bor (List ℕ)) : Type 0 where
  pub agree : AllEnded s.now 0 → chain_alone Checked s ≡ chain_alone Present s
  pub ended : (c : RefactorInfos × Bor (List ℕ)) → chain_alone Checked s ≡ Ok c → (chain_alone Present s ≡ Ok c) × AllEnded s.now 0
  pub large : (mode : Mode) → limit < length s.now → chain_alone mode s ≡ Err (TooLarge (length s.now))
  pub first : (at before : ℕ) → length s.now ≤ limit → Stands s.now 0 at before → size (drop at s.now) ≤ length (drop at s.now) → Ended s.now 0 before → (byte (drop at s.now) (name_end (drop at s.now)) ≡ 0 → ⊥)
      → chain_alone Checked s ≡ Err (EndByte (at + name_end (drop at s.now)) (byte (drop at s.now) (name_end (drop at s.now))))

abbrev pub ChainsModes : Type 0
ChainsModes = (s : Bor (List ℕ)) → ChainModes s

-- what is written behind a count is a chain of that count to its end; its records are those of the block, and past the count it is 14
pub record IsBack (mode : Mode) (count : ℕ) (block s : Bor (List ℕ)) : Type 0 where
  pub front : le2 s.now 0 ≡ count
  pub chain : chain_alone mode (after s 2) ≡ Ok (record { bytes = after s 2; count = count }, after (after s 2) (length block.now))
  pub records : told (listed (after s 2) count) ≡ told (listed block count)
  pub past : (k : ℕ) → count ≤ k → numbered (listed (after s 2) count) count k ≡ Err (NoSuchNumber count k)

abbrev pub EntriesReadBack : Type 0
EntriesReadBack = (mode : Mode) (count : ℕ) (block s : Bor (List ℕ)) → 0 < count → entries_writing count block ≡ Ok s.now → IsBack mode count block s

-- docs/FORMAT.md, "Fit records": what the writer of refactor records writes is read back in whatever mode, wherever it stands, makes good blocks, and nothing else does.
use Rattle.std.specs.Prelude.{ℕ, ◌+◌, ◌-◌, ◌<◌, ◌≤◌, ◌≡◌, Bool, true, false, List, [], ◌∷◌, ◌++◌, map, Ok, Err, length, bit_and, bit_or, if◌then◌else◌}
use Rattle.std.specs.List.{All}
use Rattle.std.specs.Borrow.{Bor}
use Rattle.le.specs.Le.{bytes2, has}
use Rattle.part.specs.Slice.{after}
use Rattle.refusal.specs.Refusal.{limit}
use Rattle.refusal.specs.declared.Mode.{Mode}
use Rattle.refusal.specs.declared.Refusal.TheVariants.{BadBlock}
use Rattle.refactor.specs.declared.AdsRefactorInfo.{AdsRefactorInfo}
use Rattle.refactor.specs.Refactor.{first_of, alone, chain_alone, listed}
use Rattle.refactor.specs.Told.{Told, told_of, told}
use Rattle.refactor.specs.Block.{block_checked}
use Rattle.refactor.specs.Writing.{info_bytes, info_writing, entries_writing}

-- what a record is written from
pub record Former : Type 0 where
  pub count : ℕ
  pub name : List ℕ

-- the name within its length field of 2 bytes
pub record Fits (f : Former) : Type 0 where
  pub name : length f.name ≤ 65535

-- the count within its mask, and the follower's bit where a record follows
abbrev pub packed : ℕ → Bool → ℕ
packed count has_next = if has_next then bit_or (bit_and count 0x01111111) 0x01000000 else bit_and count 0x01111111

abbrev pub bytes_of : Former → Bool → List ℕ
bytes_of f has_next = info_bytes (packed f.count has_next) f.name

-- what is told of it then: the mask holds the follower's bit, so that a count that has it tells a follower too
abbrev pub written : Former → Bool → Told
written f has_next = record { count = packed f.count has_next; followed = if has_next then true else has f.count 0x01000000; name = f.name }

-- bytes that begin as a record was written are read as it, in a mode, and only its bytes are taken
pub record IsBack (mode : Mode) (f : Former) (has_next : Bool) (s : Bor (List ℕ)) : Type 0 where
  pub back : AdsRefactorInfo
  pub is : alone mode s ≡ Ok back
  pub tells : told_of back ≡ written f has_next
  pub takes : first_of s ≡ Ok (back, after s (length (bytes_of f has_next)))

-- it is written exactly where it fits
pub record ReadBack (mode : Mode) (f : Former) (has_next : Bool) : Type 0 where
  pub written : Fits f → info_writing f.count has_next f.name ≡ Ok (bytes_of f has_next)
  pub only : (bytes : List ℕ) → info_writing f.count has_next f.name ≡ Ok bytes → Fits f × (bytes ≡ bytes_of f has_next)
  pub read : Fits f → (s : Bor (List ℕ)) (more : List ℕ) → s.now ≡ bytes_of f has_next ++ more → length s.now ≤ limit → IsBack mode f has_next s

abbrev pub RefactorsReadBack : Type 0
RefactorsReadBack = (mode : Mode) (f : Former) (has_next : Bool) → ReadBack mode f has_next

-- the records of a chain one after another, each but the last with a follower: their bytes, and what they tell
abbrev pub is_followed : List Former → Bool
is_followed [] = false
is_followed (f ∷ more) = true

unfoldable pub chain_bytes : List Former → List ℕ
chain_bytes [] = []
chain_bytes (f ∷ more) = bytes_of f (is_followed more) ++ chain_bytes more

unfoldable pub chain_written : List Former → List Told
chain_written [] = []
chain_written (f ∷ more) = written f (is_followed more) ∷ chain_written more

unfoldable pub last_count : List Former → ℕ
last_count [] = 0
last_count (f ∷ []) = f.count
last_count (f ∷ next ∷ more) = last_count (next ∷ more)

-- they are a good block of their count, unless the last one's count has the follower's bit: then all but the last are good, refusal 9. The block tells them
pub record IsBlock (fs : List Former) (block : Bor (List ℕ)) : Type 0 where
  pub passes : block_checked (length fs) block ≡ (if has (last_count fs) 0x01000000 then Err (BadBlock (length fs) (length fs - 1)) else Ok tt)
  pub tells : told (listed block (length fs)) ≡ chain_written fs

abbrev pub RefactorBlocks : Type 0
RefactorBlocks = (fs : List Former) (block : Bor (List ℕ)) → All Fits fs → block.now ≡ chain_bytes fs → IsBlock fs block

-- so a block is that of one list of records, as they are written
abbrev pub RefactorsFixed : Type 0
RefactorsFixed = (fs gs : List Former) → All Fits fs → All Fits gs → chain_bytes fs ≡ chain_bytes gs → chain_written fs ≡ chain_written gs

-- what the records that a block tells are written from
abbrev pub formers : List Told → List Former
formers = map (λ r. record { count = r.count; name = r.name })

-- a block that passes is the block of the records that it tells, as many as it counts
pub record IsMade (count : ℕ) (block : Bor (List ℕ)) : Type 0 where
  pub is : block.now ≡ chain_bytes (formers (told (listed block count)))
  pub long : length (told (listed block count)) ≡ count

abbrev pub RefactorBlocksMade : Type 0
RefactorBlocksMade = (count : ℕ) (block : Bor (List ℕ)) → All (λ b. b < 256) block.now → block_checked count block ≡ Ok tt → IsMade count block

-- records one after another, one at least, the last without the follower's bit: a chain of them all wherever they stand, whatever follows them
pub record IsChainBack (mode : Mode) (fs : List Former) (s : Bor (List ℕ)) : Type 0 where
  pub chain : chain_alone mode s ≡ Ok (record { bytes = s; count = length fs }, after s (length (chain_bytes fs)))
  pub tells : told (listed s (length fs)) ≡ chain_written fs

abbrev pub ChainsReadBack : Type 0
ChainsReadBack = (mode : Mode) (fs : List Former) (s : Bor (List ℕ)) (more : List ℕ) → 0 < length fs → All Fits fs → has (last_count fs) 0x01000000 ≡ false
    → s.now ≡ chain_bytes fs ++ more → length s.now ≤ limit → IsChainBack mode fs s

-- a block that is written behind its count: records that fit, the last without the follower's bit, as many as the count, which fits its 2 bytes; the whole is within the limit
pub record IsEntries (fs : List Former) (count : ℕ) (block : Bor (List ℕ)) : Type 0 where
  pub fit : All Fits fs
  pub last : has (last_count fs) 0x01000000 ≡ false
  pub is : block.now ≡ chain_bytes fs
  pub long : length fs ≡ count
  pub counted : count ≤ 65535
  pub whole : 2 + length block.now ≤ limit

-- such a block is written, and no other block of bytes
pub record EntriesAccepted (count : ℕ) (block : Bor (List ℕ)) : Type 0 where
  pub written : (fs : List Former) → IsEntries fs count block → entries_writing count block ≡ Ok (bytes2 count ++ block.now)
  pub only : (bytes : List ℕ) → All (λ b. b < 256) block.now → entries_writing count block ≡ Ok bytes → IsEntries (formers (told (listed block count))) count block × (bytes ≡ bytes2 count ++ block.now)

abbrev pub EntriesWritten : Type 0
EntriesWritten = (count : ℕ) (block : Bor (List ℕ)) → EntriesAccepted count block

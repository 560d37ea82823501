-- docs/FORMAT.md, "Writing": which blocks of refactor records are refused by 9, with which figures, and what the writers of one record and of a block behind its count
-- refuse and write, by the bytes.
use Rattle.std.specs.Prelude.{ℕ, suc, ◌+◌, ◌<◌, ◌≤◌, ◌≡◌, Bool, List, Ok, Err, ltb, length, bit_and, bit_or, drop, if◌then◌else◌}
use Rattle.std.specs.Borrow.{Bor}
use Rattle.le.specs.Le.{le2, le4, part}
use Rattle.refusal.specs.declared.Refusal.TheVariants.{TooLong, TooLarge, BadBlock}
use Rattle.refactor.specs.Block.{block_checked}
use Rattle.refactor.specs.Writing.{info_writing, entries_writing}
use Rattle.refactor.specs.Laid.{name_length, size, name_end, byte, counted, followed}

-- a good record stands at the start of some bytes: it is whole, has no packed bit outside the mask, the follower's bit exactly where others are counted behind it,
-- and end byte 0
pub record IsGood (s : List ℕ) (follows : Bool) : Type 0 where
  pub whole : size s ≤ length s
  pub packed : le4 s 0 ≡ counted s
  pub told : followed s ≡ follows
  pub ended : byte s (name_end s) ≡ 0

-- of so many that are counted, so many good ones stand one behind another from one place to another
pub data Good (s : List ℕ) : ℕ → ℕ → ℕ → ℕ → Type 0 where
  none : {counts at : ℕ} → Good s counts at at 0
  one_more : {left from at many : ℕ} → IsGood (drop from s) (ltb 0 left) → Good s left (from + size (drop from s)) at many → Good s (suc left) from at (suc many)

-- a block passes that is its count of good ones. Else it is 9, with the count and how many good ones stand at its start: either there are fewer, and behind them
-- stands none, or bytes are left behind them
pub data BlockMeant (count : ℕ) (block : Bor (List ℕ)) : Type 0 where
  passes : Good block.now count 0 (length block.now) count → block_checked count block ≡ Ok tt → BlockMeant count block
  longer : (at : ℕ) → Good block.now count 0 at count → at < length block.now → block_checked count block ≡ Err (BadBlock count count) → BlockMeant count block
  fewer : (at good left : ℕ) → good + suc left ≡ count → Good block.now count 0 at good → (IsGood (drop at block.now) (ltb 0 left) → ⊥)
      → block_checked count block ≡ Err (BadBlock count good) → BlockMeant count block

-- how a record is written: the count within its mask, with the follower's bit where one follows
pub record IsLaid (count : ℕ) (has_next : Bool) (name bytes : List ℕ) : Type 0 where
  pub packed : le4 bytes 0 ≡ (if has_next then bit_or (bit_and count 0x01111111) 0x01000000 else bit_and count 0x01111111)
  pub name_long : name_length bytes ≡ length name
  pub name_is : part bytes 6 (length name) ≡ name
  pub ended : byte bytes (name_end bytes) ≡ 0
  pub long : length bytes ≡ size bytes

-- 7 for a name that a length of 2 bytes does not hold, with 65535 and its length
pub data Written (count : ℕ) (has_next : Bool) (name : List ℕ) : Type 0 where
  name_too_long : 65535 < length name → info_writing count has_next name ≡ Err (TooLong 65535 (length name)) → Written count has_next name
  written : length name ≤ 65535 → (bytes : List ℕ) → info_writing count has_next name ≡ Ok bytes → IsLaid count has_next name bytes → Written count has_next name

-- a block behind its count: 7 for the count, then 9 with how many good ones stand at its start, then 5 with the length of count and block
pub data Entries (count : ℕ) (block : Bor (List ℕ)) : Type 0 where
  too_many : 65535 < count → entries_writing count block ≡ Err (TooLong 65535 count) → Entries count block
  bad : count ≤ 65535 → (good : ℕ) → block_checked count block ≡ Err (BadBlock count good) → entries_writing count block ≡ Err (BadBlock count good) → Entries count block
  too_large : count ≤ 65535 → block_checked count block ≡ Ok tt → 16777216 < 2 + length block.now → entries_writing count block ≡ Err (TooLarge (2 + length block.now)) → Entries count block
  entries : count ≤ 65535 → block_checked count block ≡ Ok tt → 2 + length block.now ≤ 16777216 → (bytes : List ℕ) → entries_writing count block ≡ Ok bytes
      → le2 bytes 0 ≡ count → drop 2 bytes ≡ block.now → Entries count block

pub record RefactorsRefused : Type 0 where
  pub block : (count : ℕ) (block : Bor (List ℕ)) → BlockMeant count block
  pub writing : (count : ℕ) (has_next : Bool) (name : List ℕ) → Written count has_next name
  pub entries : (count : ℕ) (block : Bor (List ℕ)) → Entries count block

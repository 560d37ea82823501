-- docs/FORMAT.md, "Writing": which blocks of attributes are refused by 9, with which figures, and what the writer of one refuses and writes, by the bytes.
use Rattle.std.specs.Prelude.{ℕ, suc, ◌+◌, ◌<◌, ◌≤◌, ◌≡◌, List, Ok, Err, length, drop}
use Rattle.std.specs.Borrow.{Bor}
use Rattle.le.specs.Le.{part}
use Rattle.refusal.specs.declared.Refusal.TheVariants.{TooLong, BadBlock}
use Rattle.attribute.specs.Told.{Told}
use Rattle.attribute.specs.Block.{block_checked}
use Rattle.attribute.specs.Writing.{attribute_writing}
use Rattle.attribute.specs.Laid.{name_length, value_length, size, name_end, value_end, byte}

-- a good attribute stands at the start of some bytes: it is whole, and its end bytes are 0
pub record IsGood (s : List ℕ) : Type 0 where
  pub whole : size s ≤ length s
  pub name_ended : byte s (name_end s) ≡ 0
  pub value_ended : byte s (value_end s) ≡ 0

-- so many good ones stand one behind another from one place to another
pub data Good (s : List ℕ) : ℕ → ℕ → ℕ → Type 0 where
  none : {at : ℕ} → Good s at at 0
  one_more : {from at many : ℕ} → IsGood (drop from s) → Good s (from + size (drop from s)) at many → Good s from at (suc many)

-- a block passes that is its count of good ones. Else it is 9, with the count and how many good ones stand at its start: either there are fewer, and behind them
-- stands none, or bytes are left behind them
pub data BlockMeant (count : ℕ) (block : Bor (List ℕ)) : Type 0 where
  passes : Good block.now 0 (length block.now) count → block_checked count block ≡ Ok tt → BlockMeant count block
  longer : (at : ℕ) → Good block.now 0 at count → at < length block.now → block_checked count block ≡ Err (BadBlock count count) → BlockMeant count block
  fewer : (at good : ℕ) → Good block.now 0 at good → good < count → (IsGood (drop at block.now) → ⊥) → block_checked count block ≡ Err (BadBlock count good) → BlockMeant count block

-- how an attribute is written
pub record IsLaid (a : Told) (bytes : List ℕ) : Type 0 where
  pub name_long : name_length bytes ≡ length a.name
  pub value_long : value_length bytes ≡ length a.value
  pub name : part bytes 2 (length a.name) ≡ a.name
  pub name_ended : byte bytes (name_end bytes) ≡ 0
  pub value : part bytes (3 + length a.name) (length a.value) ≡ a.value
  pub value_ended : byte bytes (value_end bytes) ≡ 0
  pub long : length bytes ≡ size bytes

-- 7 for a name, then for a value, that a length of 1 byte does not hold, with 255 and its own length
pub data Written (a : Told) : Type 0 where
  name_too_long : 255 < length a.name → attribute_writing a ≡ Err (TooLong 255 (length a.name)) → Written a
  value_too_long : length a.name ≤ 255 → 255 < length a.value → attribute_writing a ≡ Err (TooLong 255 (length a.value)) → Written a
  written : length a.name ≤ 255 → length a.value ≤ 255 → (bytes : List ℕ) → attribute_writing a ≡ Ok bytes → IsLaid a bytes → Written a

pub record AttributesRefused : Type 0 where
  pub block : (count : ℕ) (block : Bor (List ℕ)) → BlockMeant count block
  pub writing : (a : Told) → Written a

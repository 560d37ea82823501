-- docs/FORMAT.md, "Writing": what the checks of a writer, what it writes and its promise mean.
use Rattle.std.specs.Prelude.{ℕ, ◌+◌, ◌<◌, ◌≤◌, ◌≡◌, true, false, List, [], length, get_or, take, drop, Result, Ok, Err}
use Rattle.le.specs.Le.{le2, le4, part}
use Rattle.refusal.specs.declared.Refusal.{Refusal}
use Rattle.refusal.specs.declared.Refusal.TheVariants.{TooLong, TooLarge, OutputTooSmall}
use Rattle.writing.specs.Checks.{count_checked, strings_checked, room_checked}
use Rattle.writing.specs.Layout.{lengths_bytes, strings_bytes, attributes_bytes, entry_bytes}
use Rattle.writing.specs.Writing.{Writes}

-- a count that 2 bytes do not hold is 7, with the most and the count
pub data CountChecked (count : ℕ) : Type 0 where
  too_long : 65535 < count → count_checked count ≡ Err (TooLong 65535 count) → CountChecked count
  fits : count ≤ 65535 → count_checked count ≡ Ok tt → CountChecked count

-- of three strings the first that is too long is 7, with its own length
pub data StringsChecked (name type comment : List ℕ) : Type 0 where
  name_too_long : 65535 < length name → strings_checked name type comment ≡ Err (TooLong 65535 (length name)) → StringsChecked name type comment
  type_too_long : length name ≤ 65535 → 65535 < length type → strings_checked name type comment ≡ Err (TooLong 65535 (length type)) → StringsChecked name type comment
  comment_too_long : length name ≤ 65535 → length type ≤ 65535 → 65535 < length comment → strings_checked name type comment ≡ Err (TooLong 65535 (length comment))
      → StringsChecked name type comment
  all_fit : length name ≤ 65535 → length type ≤ 65535 → length comment ≤ 65535 → strings_checked name type comment ≡ Ok tt → StringsChecked name type comment

-- 5 above the limit; within it 6 where fewer bytes are lent
pub data RoomChecked (needed lent : ℕ) : Type 0 where
  too_large : 16777216 < needed → room_checked needed lent ≡ Err (TooLarge needed) → RoomChecked needed lent
  too_small : needed ≤ 16777216 → lent < needed → room_checked needed lent ≡ Err (OutputTooSmall needed lent) → RoomChecked needed lent
  has_room : needed ≤ 16777216 → needed ≤ lent → room_checked needed lent ≡ Ok tt → RoomChecked needed lent

pub record ChecksMeant : Type 0 where
  pub count : (count : ℕ) → CountChecked count
  pub strings : (name type comment : List ℕ) → StringsChecked name type comment
  pub room : (needed lent : ℕ) → RoomChecked needed lent

-- three strings: each behind the end byte of the one before it, each end byte 0
pub record StringsLaid (name type comment bytes : List ℕ) : Type 0 where
  pub name_is : part bytes 0 (length name) ≡ name
  pub name_end : get_or bytes (length name) 0 ≡ 0
  pub type_is : part bytes (length name + 1) (length type) ≡ type
  pub type_end : get_or bytes (length name + 1 + length type) 0 ≡ 0
  pub comment_is : part bytes (length name + 1 + length type + 1) (length comment) ≡ comment
  pub comment_end : get_or bytes (length name + 1 + length type + 1 + length comment) 0 ≡ 0
  pub long : length bytes ≡ length name + 1 + length type + 1 + length comment + 1

-- their lengths: the name's, the type's, the comment's
pub record LengthsLaid (name type comment bytes : List ℕ) : Type 0 where
  pub name_length : le2 bytes 0 ≡ length name
  pub type_length : le2 bytes 2 ≡ length type
  pub comment_length : le2 bytes 4 ≡ length comment
  pub long : length bytes ≡ 6

-- attributes that are flagged are a count and the block; those that are not are nothing
pub record AttributesLaid (count : ℕ) (block : List ℕ) : Type 0 where
  pub count_is : le2 (attributes_bytes true count block) 0 ≡ count
  pub block_is : drop 2 (attributes_bytes true count block) ≡ block
  pub nothing : attributes_bytes false count block ≡ []

-- an entry begins with its own length
pub record EntryLaid (rest : List ℕ) : Type 0 where
  pub claims : le4 (entry_bytes rest) 0 ≡ length (entry_bytes rest)
  pub behind : drop 4 (entry_bytes rest) ≡ rest

pub record LayoutsMeant : Type 0 where
  pub strings : (name type comment : List ℕ) → StringsLaid name type comment (strings_bytes name type comment)
  pub lengths : (name type comment : List ℕ) → length name ≤ 65535 → length type ≤ 65535 → length comment ≤ 65535 → LengthsLaid name type comment (lengths_bytes name type comment)
  pub attributes : (count : ℕ) (block : List ℕ) → count ≤ 65535 → AttributesLaid count block
  pub entry : (rest : List ℕ) → length rest + 4 ≤ 16777216 → EntryLaid rest

-- a refusal is answered and leaves the buffer; so does 6, where less is lent than is to be written; else the bytes stand from place 0 on, their number is
-- answered, and what is behind them stays
pub data Written (w : Result (List ℕ) Refusal) (old new : List ℕ) (r : Result ℕ Refusal) : Type 0 where
  refused : (why : Refusal) → w ≡ Err why → r ≡ Err why → new ≡ old → Written w old new r
  no_room : (bytes : List ℕ) → w ≡ Ok bytes → length old < length bytes → r ≡ Err (OutputTooSmall (length bytes) (length old)) → new ≡ old → Written w old new r
  whole : (bytes : List ℕ) → w ≡ Ok bytes → length bytes ≤ length old → r ≡ Ok (length bytes) → take (length bytes) new ≡ bytes → drop (length bytes) new ≡ drop (length bytes) old
      → Written w old new r

abbrev pub WritesMeant : Type 0
WritesMeant = (w : Result (List ℕ) Refusal) (old new : List ℕ) (r : Result ℕ Refusal) → Writes w old new r → Written w old new r

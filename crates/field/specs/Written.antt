-- docs/FORMAT.md, "Writing": which fields are written, each of them, and by which refusal another is refused.
use Rattle.std.specs.Prelude.{ℕ, ◌+◌, ◌<◌, ◌≤◌, ◌≡◌, Bool, true, List, Ok, Err, length, if◌then◌else◌}
use Rattle.le.specs.Le.{has}
use Rattle.refusal.specs.Refusal.{limit}
use Rattle.refusal.specs.declared.Refusal.{Refusal}
use Rattle.refusal.specs.declared.Refusal.TheVariants.{TooLong, TooLarge, BadBlock}
use Rattle.attribute.specs.Block.{block_checked}
use Rattle.writing.specs.Checks.{IsShort}
use Rattle.field.specs.declared.writer.NewField.{NewField}
use Rattle.field.specs.Told.{IsGuid}
use Rattle.field.specs.Writing.{field_bytes, field_written}

-- the bytes of a section that is there where it is flagged
abbrev pub size_of : Bool → ℕ → ℕ
size_of there size = if there then size else 0

-- the header, three strings with an end byte each, and the sections
abbrev pub entry_length : NewField → ℕ
entry_length p =
    45 + length p.name.now + length p.type_name.now + length p.comment.now
    + size_of (has p.flags.0 0x0080) 16 + size_of (has p.flags.0 0x0200) p.size + size_of (has p.flags.0 0x1000) (2 + length p.attributes.bytes.now)

-- attributes are looked at where they are flagged: a count that 2 bytes hold, and a block of so many good ones
pub record HasBlock (p : NewField) : Type 0 where
  pub count : p.attributes.count ≤ 65535
  pub good : block_checked p.attributes.count p.attributes.bytes ≡ Ok tt

-- which fields are written
pub record IsTaken (p : NewField) : Type 0 where
  pub short : IsShort p.name.now p.type_name.now p.comment.now
  pub block : has p.flags.0 0x1000 ≡ true → HasBlock p
  pub small : entry_length p ≤ limit

-- why one is refused: the first that holds, in this order
pub data IsBarred (p : NewField) : Refusal → Type 0 where
  name : 65535 < length p.name.now → IsBarred p (TooLong 65535 (length p.name.now))
  type_name : length p.name.now ≤ 65535 → 65535 < length p.type_name.now → IsBarred p (TooLong 65535 (length p.type_name.now))
  comment : length p.name.now ≤ 65535 → length p.type_name.now ≤ 65535 → 65535 < length p.comment.now → IsBarred p (TooLong 65535 (length p.comment.now))
  count : IsShort p.name.now p.type_name.now p.comment.now → has p.flags.0 0x1000 ≡ true → 65535 < p.attributes.count → IsBarred p (TooLong 65535 p.attributes.count)
  block : (good : ℕ) → IsShort p.name.now p.type_name.now p.comment.now → has p.flags.0 0x1000 ≡ true → p.attributes.count ≤ 65535
      → block_checked p.attributes.count p.attributes.bytes ≡ Err (BadBlock p.attributes.count good) → IsBarred p (BadBlock p.attributes.count good)
  size : IsShort p.name.now p.type_name.now p.comment.now → (has p.flags.0 0x1000 ≡ true → HasBlock p) → limit < entry_length p → IsBarred p (TooLarge (entry_length p))

-- all that may be is written, and its length is the sum of its parts; nothing else is, but is refused by the first that bars it
pub record IsWritten (p : NewField) : Type 0 where
  pub long : length (field_bytes p) ≡ entry_length p
  pub written : IsTaken p → field_written p ≡ Ok (field_bytes p)
  pub only : (bs : List ℕ) → field_written p ≡ Ok bs → IsTaken p
  pub refused : (why : Refusal) → IsBarred p why → field_written p ≡ Err why
  pub barred : (why : Refusal) → field_written p ≡ Err why → IsBarred p why

abbrev pub FieldsWritten : Type 0
FieldsWritten = (p : NewField) → IsGuid p.guid → IsWritten p

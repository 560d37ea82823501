-- docs/FORMAT.md, "The command's text": the names of the parts of an entry, word for word.
use Rattle.std.specs.Prelude.{ℕ, ◌≡◌, ◌++◌, codes, decimal}
use Rattle.sections.specs.declared.Part.TheVariants.{Length, Group, Offset, Size, TypeId, Flags, High, StringLengths, Name, «Type», Comment, Guid, AttributeCount, Attribute, ExtendedFlags, FormerName, Unread}
use Rattle.sections.specs.Parts.{part_text}

pub record PartsNamed : Type 0 where
  pub length : part_text Length ≡ codes "length"
  pub group : part_text Group ≡ codes "group"
  pub offset : part_text Offset ≡ codes "offset"
  pub size : part_text Size ≡ codes "size"
  pub type_id : part_text TypeId ≡ codes "type id"
  pub flags : part_text Flags ≡ codes "flags"
  pub high : part_text High ≡ codes "high"
  pub string_lengths : part_text StringLengths ≡ codes "string lengths"
  pub name : part_text Name ≡ codes "name"
  pub type : part_text «Type» ≡ codes "type"
  pub comment : part_text Comment ≡ codes "comment"
  pub guid : part_text Guid ≡ codes "GUID"
  pub attribute_count : part_text AttributeCount ≡ codes "attribute count"
  pub attribute : (k : ℕ) → part_text (Attribute k) ≡ codes "attribute " ++ decimal k
  pub extended_flags : part_text ExtendedFlags ≡ codes "extended flags"
  pub former_name : (k : ℕ) → part_text (FormerName k) ≡ codes "former name " ++ decimal k
  pub unread : part_text Unread ≡ codes "unread"

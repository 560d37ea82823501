-- docs/FORMAT.md, "The command's text": the names and the colours of sections, word for word.
use Rattle.std.specs.Prelude.{ℕ, ◌+◌, ◌*◌, ◌≡◌, codes}
use Rattle.sections.specs.Parts.{part_text}
use Rattle.sections.specs.declared.Part.{Part}
use Rattle.sections.specs.declared.Part.TheVariants.{Length, Group, Offset, Size, TypeId, Flags, High, StringLengths, Name, «Type», Comment, Guid, AttributeCount, Attribute, ExtendedFlags, FormerName, Unread}
use Rattle.picture.specs.Rows.{colour, label}

pub record ColoursMeant : Type 0 where
  pub length : colour Length ≡ codes "36"
  pub group : colour Group ≡ codes "33"
  pub offset : colour Offset ≡ codes "32"
  pub size : colour Size ≡ codes "35"
  pub type_id : colour TypeId ≡ codes "94"
  pub flags : colour Flags ≡ codes "93"
  pub high : colour High ≡ codes "90"
  pub string_lengths : colour StringLengths ≡ codes "96"
  pub name : colour Name ≡ codes "92"
  pub type : colour «Type» ≡ codes "96"
  pub comment : colour Comment ≡ codes "95"
  pub guid : colour Guid ≡ codes "32"
  pub attribute_count : colour AttributeCount ≡ codes "36"
  pub even_attribute : (k : ℕ) → colour (Attribute (2 * k)) ≡ codes "33"
  pub odd_attribute : (k : ℕ) → colour (Attribute (2 * k + 1)) ≡ codes "96"
  pub extended_flags : colour ExtendedFlags ≡ codes "94"
  pub even_former_name : (k : ℕ) → colour (FormerName (2 * k)) ≡ codes "35"
  pub odd_former_name : (k : ℕ) → colour (FormerName (2 * k + 1)) ≡ codes "92"
  pub unread : colour Unread ≡ codes "7;31"

-- what is unread is called with its length, all else by its name
pub record LabelsMeant : Type 0 where
  pub unread : label Unread 1234 ≡ codes "unread, 1,234 bytes"
  pub other : (p : Part) (n : ℕ) → (p ≡ Unread → ⊥) → label p n ≡ part_text p

-- docs/FORMAT.md, "The command's text": what an upload has in a part of an entry, as `compare` tells it.
use Rattle.std.specs.Prelude.{ℕ, List, Option, Some, None, length, min}
use Rattle.std.specs.Borrow.{Bor}
use Rattle.part.specs.Outcome.{outcome}
use Rattle.flags.specs.declared.symbol_flags.AdsSymbol2Flags.{AdsSymbol2Flags}
use Rattle.attribute.specs.Attribute as attribute
use Rattle.refactor.specs.Refactor as refactor
use Rattle.symbol.specs.declared.AdsSymbolInfo.{AdsSymbolInfo}
use Rattle.sections.specs.declared.Part.{Part}
use Rattle.sections.specs.declared.Part.TheVariants.{Length, Group, Offset, Size, TypeId, Flags, High, StringLengths, Name, «Type», Comment, Guid, AttributeCount, Attribute, ExtendedFlags, FormerName, Unread}
use Rattle.values.specs.declared.Value.{Value}
use Rattle.values.specs.declared.Value.TheVariants as told

abbrev pub guid_value : Option (List ℕ) → Value
guid_value (Some id) = told.Guid id
guid_value None = told.Absent

abbrev pub extended_value : Option AdsSymbol2Flags → Value
extended_value (Some flags) = told.ExtendedFlags flags
extended_value None = told.Absent

-- a number of 32 bits
abbrev pub count_value : ℕ → Value
count_value n = told.Number (min n 4294967295)

-- the record at the start of a section's bytes
abbrev pub attribute_in : Bor (List ℕ) → Value
attribute_in s = outcome (attribute.first_of s) (λ p. told.Attribute p.0) (λ why. told.Absent)

abbrev pub former_name_in : Bor (List ℕ) → Value
former_name_in s = outcome (refactor.first_of s) (λ p. told.FormerName p.0.name) (λ why. told.Absent)

-- of a symbol, a part of its entry, and that part's bytes
unfoldable pub value_of : AdsSymbolInfo → Part → Bor (List ℕ) → Value
value_of s Length bytes = told.Bytes s.length
value_of s Group bytes = told.Hexadecimal s.index_group.0
value_of s Offset bytes = told.Hexadecimal s.index_offset.0
value_of s Size bytes = told.Bytes s.size
value_of s TypeId bytes = told.Number s.data_type_id
value_of s Flags bytes = told.Flags s.flags
value_of s High bytes = told.High s.high
value_of s StringLengths bytes = told.Bytes (length bytes.now)
value_of s Name bytes = told.Text s.name
value_of s «Type» bytes = told.Text s.type_name
value_of s Comment bytes = told.Text s.comment
value_of s Guid bytes = guid_value s.guid
value_of s AttributeCount bytes = count_value s.attributes.count
value_of s (Attribute number) bytes = attribute_in bytes
value_of s ExtendedFlags bytes = extended_value s.extended_flags
value_of s (FormerName number) bytes = former_name_in bytes
value_of s Unread bytes = told.Bytes (length bytes.now)

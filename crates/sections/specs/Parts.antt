-- docs/FORMAT.md, "The command's text": the parts of an entry in the order in which they stand.
use Rattle.std.specs.Prelude.{ℕ, List, ◌++◌, codes, decimal}
use Rattle.std.specs.Ordering.{nat_cmp, ordering_then}
use Rattle.std.specs.declared.cmp.Ordering.{Ordering}
use Rattle.sections.specs.declared.Part.{Part}
use Rattle.sections.specs.declared.Part.TheVariants.{Length, Group, Offset, Size, TypeId, Flags, High, StringLengths, Name, «Type», Comment, Guid, AttributeCount, Attribute, ExtendedFlags, FormerName, Unread}

-- by their kinds, and of a kind by number
abbrev pub kind : Part → ℕ
kind Length = 0
kind Group = 1
kind Offset = 2
kind Size = 3
kind TypeId = 4
kind Flags = 5
kind High = 6
kind StringLengths = 7
kind Name = 8
kind «Type» = 9
kind Comment = 10
kind Guid = 11
kind AttributeCount = 12
kind (Attribute n) = 13
kind ExtendedFlags = 14
kind (FormerName n) = 15
kind Unread = 16

abbrev pub number : Part → ℕ
number Length = 0
number Group = 0
number Offset = 0
number Size = 0
number TypeId = 0
number Flags = 0
number High = 0
number StringLengths = 0
number Name = 0
number «Type» = 0
number Comment = 0
number Guid = 0
number AttributeCount = 0
number (Attribute n) = n
number ExtendedFlags = 0
number (FormerName n) = n
number Unread = 0

abbrev pub part_order : Part → Part → Ordering
part_order p q = ordering_then (nat_cmp (kind p) (kind q)) (nat_cmp (number p) (number q))

-- what a part is called
unfoldable pub part_text : Part → List ℕ
part_text Length = codes "length"
part_text Group = codes "group"
part_text Offset = codes "offset"
part_text Size = codes "size"
part_text TypeId = codes "type id"
part_text Flags = codes "flags"
part_text High = codes "high"
part_text StringLengths = codes "string lengths"
part_text Name = codes "name"
part_text «Type» = codes "type"
part_text Comment = codes "comment"
part_text Guid = codes "GUID"
part_text AttributeCount = codes "attribute count"
part_text (Attribute n) = codes "attribute " ++ decimal n
part_text ExtendedFlags = codes "extended flags"
part_text (FormerName n) = codes "former name " ++ decimal n
part_text Unread = codes "unread"

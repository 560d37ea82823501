-- docs/FORMAT.md, "Data type entries": what the slots of a data type hold, in order, and those of an array record and of a member's path.
use Rattle.std.specs.Prelude.{ℕ, ◌+◌, List, [], ◌∷◌, ◌++◌, length}
use Rattle.data_type.specs.declared.AdsDataTypeInfo.{AdsDataTypeInfo}
use Rattle.data_type.specs.declared.array.AdsArrayInfo.{AdsArrayInfo}
use Rattle.data_type.specs.declared.members.Position.{Position}
use Rattle.told.specs.Slots.{field_slots, guid_bytes}
use Rattle.told.specs.declared.types.ReadMember.{ReadMember}

-- where the strings end, and the array records begin
abbrev pub arrays_at : AdsDataTypeInfo → ℕ
arrays_at r = 45 + length r.field.name.now + length r.field.type_name.now + length r.field.comment.now

-- those of a field, and what a data type has besides
unfoldable pub type_slots : AdsDataTypeInfo → List ℕ
type_slots r = field_slots r.field ++ (arrays_at r ∷ r.arrays.count ∷ r.sub_items.count ∷ r.member_count ∷ [])

abbrev pub type_guid : AdsDataTypeInfo → List ℕ
type_guid r = guid_bytes r.field.guid

abbrev pub array_slots : AdsArrayInfo → List ℕ
array_slots a = a.lower_bound ∷ a.elements ∷ []

-- of a member: the slots of its record, its GUID bytes, and its depth, its offset from the root's start and its path
abbrev pub member_slots : ReadMember → List ℕ
member_slots m = type_slots m.data_type

abbrev pub member_guid : ReadMember → List ℕ
member_guid m = type_guid m.data_type

abbrev pub position_slots : Position → List ℕ
position_slots p = p.depth ∷ p.offset ∷ p.path

abbrev pub path_slots : ReadMember → List ℕ
path_slots m = position_slots m.position

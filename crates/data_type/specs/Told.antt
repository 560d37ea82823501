-- docs/FORMAT.md, "Data type entries": what a data type tells, wherever it lies.
use Rattle.std.specs.Prelude.{ℕ, ◌≡◌, List, map}
use Rattle.std.specs.Borrow.{Bor}
use Rattle.refusal.specs.declared.Mode.{Mode}
use Rattle.walk.specs.Mapped.{map_ok}
use Rattle.field.specs.Told as field
use Rattle.data_type.specs.declared.AdsDataTypeInfo.{AdsDataTypeInfo}
use Rattle.data_type.specs.declared.array.AdsArrayInfo.{AdsArrayInfo}
use Rattle.data_type.specs.declared.members.Member.{Member}
use Rattle.data_type.specs.declared.members.Position.{Position}
use Rattle.data_type.specs.Array.{listed}
use Rattle.data_type.specs.DataType.{type_of}
use Rattle.data_type.specs.Members.{members_of}

-- a member: where it stands, with its path, its depth and its offset, and the bytes of its entry
pub record ToldMember : Type 0 where
  pub position : Position
  pub own : List ℕ

abbrev pub told_member : Member → ToldMember
told_member m = record { position = m.position; own = m.own.now }

-- all that a data type tells: what a field tells, its array records, how many members it says that it has, and these
pub record Told : Type 0 where
  pub field : field.Told
  pub arrays : List AdsArrayInfo
  pub count : ℕ
  pub members : List ToldMember

abbrev pub told_of : AdsDataTypeInfo → Told
told_of r =
    record {
      field = field.told_of r.field;
      arrays = listed r.arrays.bytes r.arrays.count;
      count = r.member_count;
      members = map told_member (members_of r);
    }

-- what a data type tells does not depend on where it lies
abbrev pub TypesAnywhere : Type 0
TypesAnywhere = (mode : Mode) (e f : Bor (List ℕ)) → e.now ≡ f.now → map_ok told_of (type_of mode e) ≡ map_ok told_of (type_of mode f)

-- docs/FORMAT.md, "Data type entries": what the slots of a data type, of its array records and of its members say of the bytes, slot by slot, as
-- bindings/c/vindaskot.h numbers them.
use Rattle.std.specs.Prelude.{ℕ, ◌+◌, ◌*◌, ◌<◌, ◌≤◌, ◌≡◌, List, [], ◌∷◌, Some, Ok, Err, slice_get, get_or, length}
use Rattle.std.specs.Borrow.{Bor}
use Rattle.le.specs.Le.{le2, le4}
use Rattle.part.specs.Slice.{part}
use Rattle.refusal.specs.declared.Mode.{Mode}
use Rattle.refusal.specs.declared.Refusal.TheVariants.{NoSuchNumber}
use Rattle.walk.specs.Step.{parse_of}
use Rattle.data_type.specs.declared.AdsDataTypeInfo.{AdsDataTypeInfo}
use Rattle.data_type.specs.declared.array.AdsArrayInfo.{AdsArrayInfo}
use Rattle.data_type.specs.declared.members.Member.{Member}
use Rattle.data_type.specs.DataType.{type_of}
use Rattle.data_type.specs.Members.{members_of}
use Rattle.told.specs.Meaning.{FieldTold}
use Rattle.told.specs.declared.types.ReadMember.{ReadMember}
use Rattle.told.specs.Asked.{type_array, type_member}
use Rattle.told.specs.TypeSlots.{type_slots, type_guid, array_slots, member_slots, member_guid, path_slots}

-- a data type, of its entry's own bytes: first what a field says, then the array records, 8 bytes each, and how many entries stand in it and below it
pub record TypeTold (e : Bor (List ℕ)) (r : AdsDataTypeInfo) (slot : ℕ → ℕ) (guid : List ℕ) : Type 0 where
  pub as_of_field : FieldTold e r.field slot guid
  pub arrays : part e (slot 17) (8 * slot 18) ≡ r.arrays.bytes
  pub array_count : slot 18 ≡ le2 e.now 38
  pub item_count : slot 19 ≡ le2 e.now 40
  pub member_count : slot 20 ≡ length (members_of r)

abbrev pub TypesTold : Type 0
TypesTold = (mode : Mode) (e : Bor (List ℕ)) (r : AdsDataTypeInfo) → type_of mode e ≡ Ok r → TypeTold e r (λ k. get_or (type_slots r) k 0) (type_guid r)

-- an array record with a number stands behind the three strings and those before it; of an accepted data type each is found, and past them 14, with how many it has
pub record ArraysTold : Type 0 where
  pub told : (mode : Mode) (s : Bor (List ℕ)) (number : ℕ) (a : AdsArrayInfo) → type_array mode s number ≡ Ok a
      → let at : ℕ = 45 + le2 s.now 32 + le2 s.now 34 + le2 s.now 36 + 8 * number in array_slots a ≡ le4 s.now at ∷ le4 s.now (at + 4) ∷ []
  pub there : (mode : Mode) (s : Bor (List ℕ)) (r : AdsDataTypeInfo) → parse_of 42 (type_of mode) s ≡ Ok r → (number : ℕ) → number < le2 s.now 38
      → (a : AdsArrayInfo) × (type_array mode s number ≡ Ok a)
  pub past : (mode : Mode) (s : Bor (List ℕ)) (r : AdsDataTypeInfo) → parse_of 42 (type_of mode) s ≡ Ok r → (number : ℕ) → le2 s.now 38 ≤ number
      → type_array mode s number ≡ Err (NoSuchNumber (le2 s.now 38) number)

-- a member of a data type is the one that stands in its place among the members, the first at 0: it has that position and those bytes. It is told as a data type of these,
-- which begin at the last place of its path; the path is a depth, an offset, and a place for each depth from 2 on
pub record MemberTold (s : Bor (List ℕ)) (r : AdsDataTypeInfo) (number : ℕ) (m : ReadMember) (slot path : ℕ → ℕ) (guid : List ℕ) : Type 0 where
  pub asked : slice_get (members_of r) number ≡ Some (record { position = m.position; own = part s (path (path 0)) (slot 0) })
  pub depth : path 0 ≡ m.position.depth
  pub offset : path 1 ≡ m.position.offset
  pub places : (k : ℕ) → path (k + 2) ≡ get_or m.position.path k 0
  pub told : TypeTold (part s (path (path 0)) (slot 0)) m.data_type slot guid

-- of an accepted data type each member is told; past them 14, with how many it has
pub record MembersTold : Type 0 where
  pub told : (mode : Mode) (s : Bor (List ℕ)) (r : AdsDataTypeInfo) → parse_of 42 (type_of mode) s ≡ Ok r → (number : ℕ) (m : ReadMember) → type_member mode s number ≡ Ok m
      → MemberTold s r number m (λ k. get_or (member_slots m) k 0) (λ k. get_or (path_slots m) k 0) (member_guid m)
  pub there : (mode : Mode) (s : Bor (List ℕ)) (r : AdsDataTypeInfo) → parse_of 42 (type_of mode) s ≡ Ok r → (number : ℕ) (x : Member) → slice_get (members_of r) number ≡ Some x
      → (m : ReadMember) × (type_member mode s number ≡ Ok m)
  pub past : (mode : Mode) (s : Bor (List ℕ)) (r : AdsDataTypeInfo) → parse_of 42 (type_of mode) s ≡ Ok r → (number : ℕ) → length (members_of r) ≤ number
      → type_member mode s number ≡ Err (NoSuchNumber (length (members_of r)) number)

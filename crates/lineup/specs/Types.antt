-- docs/FORMAT.md, "Data type entries": a data type in which every number is another, with a member at depth 4, and its path.
use Rattle.std.specs.Prelude.{ℕ, ◌≡◌, List, [], ◌∷◌, ◌++◌, replicate, Option, Some, Result, Ok}
use Rattle.refusal.specs.declared.Mode.{Mode}
use Rattle.refusal.specs.declared.Refusal.{Refusal}
use Rattle.part.specs.Outcome.{and_then}
use Rattle.attribute.specs.Attribute.{listed}
use Rattle.attribute.specs.Told as attributes
use Rattle.walk.specs.Mapped.{map_ok}
use Rattle.walk.specs.Step.{parse_of}
use Rattle.data_type.specs.Array.{left}
use Rattle.data_type.specs.DataType.{type_of}
use Rattle.data_type.specs.Members.{numbered}
use Rattle.data_type.specs.declared.AdsDataTypeInfo.{AdsDataTypeInfo}
use Rattle.data_type.specs.declared.array.AdsArrayInfo.{AdsArrayInfo}
use Rattle.data_type.specs.declared.members.Position.{Position}
use Rattle.lineup.specs.Symbols.{name, type_name, comment, guid, block, told_attributes}

-- a sub-item of so many bytes without a name, and with an offset in its parent: so many sub-items in turn
abbrev item : ℕ → ℕ → ℕ → List ℕ → List ℕ
item size offset count items = (size ∷ replicate 19 0) ++ (offset ∷ replicate 19 0) ++ (count ∷ replicate 4 0) ++ items

-- below the root, at depth 2, one of 45 bytes and one that has another, which has a third; the offsets are 1, 2, 4 and 8
abbrev items : List ℕ
items = item 45 1 0 [] ++ item 140 2 1 (item 95 4 1 (item 50 8 0 (0x81 ∷ 0x82 ∷ 0x83 ∷ 0x84 ∷ 0x85 ∷ [])))

-- an entry of 290 bytes
abbrev sent : List ℕ
sent =
    (0x22 ∷ 1 ∷ 0 ∷ 0 ∷ [])
    -- version, hash, type hash, size, offset, type id, flags
    ++ (0x01 ∷ 0x02 ∷ 0x03 ∷ 0x04 ∷ []) ++ (0x05 ∷ 0x06 ∷ 0x07 ∷ 0x08 ∷ []) ++ (0x09 ∷ 0x0A ∷ 0x0B ∷ 0x0C ∷ [])
    ++ (3 ∷ 0 ∷ 0 ∷ 0 ∷ []) ++ (0x0D ∷ 0x0E ∷ 0x0F ∷ 0x10 ∷ []) ++ (0x11 ∷ 0x12 ∷ 0x13 ∷ 0x14 ∷ []) ++ (0x81 ∷ 0x1A ∷ 0x15 ∷ 0x16 ∷ [])
    -- the lengths of the strings, an array record, two sub-items, and the strings
    ++ (2 ∷ 0 ∷ 3 ∷ 0 ∷ 1 ∷ 0 ∷ []) ++ (1 ∷ 0 ∷ 2 ∷ 0 ∷ []) ++ name ++ (0 ∷ []) ++ type_name ++ (0 ∷ []) ++ comment ++ (0 ∷ [])
    -- lower bound and number of elements
    ++ (0x31 ∷ 0x32 ∷ 0x33 ∷ 0x34 ∷ []) ++ (0x35 ∷ 0x36 ∷ 0x37 ∷ 0x38 ∷ []) ++ items
    -- GUID, copy mask, a count and a method, a count and attributes
    ++ guid ++ (0x51 ∷ 0x52 ∷ 0x53 ∷ []) ++ (1 ∷ 0 ∷ []) ++ (5 ∷ 0 ∷ 0 ∷ 0 ∷ 0x44 ∷ []) ++ (2 ∷ 0 ∷ []) ++ block
    -- what is skipped
    ++ (0x61 ∷ 0x62 ∷ 0x63 ∷ [])

-- what is told of a data type, but for its members
record Told : Type 0 where
  version : ℕ
  hash_value : ℕ
  type_hash_value : ℕ
  size : ℕ
  offset : ℕ
  type_id : ℕ
  flags : ℕ
  name : List ℕ
  type_name : List ℕ
  comment : List ℕ
  guid : Option (List ℕ)
  attributes : List attributes.Told
  arrays : List AdsArrayInfo
  sub_items : ℕ
  member_count : ℕ

abbrev told_of : AdsDataTypeInfo → Told
told_of r =
    record {
      version = r.field.version;
      hash_value = r.field.hash_value;
      type_hash_value = r.field.type_hash_value;
      size = r.field.size;
      offset = r.field.offset;
      type_id = r.field.type_id;
      flags = r.field.flags.0;
      name = r.field.name.now;
      type_name = r.field.type_name.now;
      comment = r.field.comment.now;
      guid = r.field.guid;
      attributes = attributes.told (listed r.field.attributes.bytes r.field.attributes.count);
      arrays = left r.arrays;
      sub_items = r.sub_items.count;
      member_count = r.member_count;
    }

abbrev told : Told
told =
    record {
      version = 0x04030201;
      hash_value = 0x08070605;
      type_hash_value = 0x0C0B0A09;
      size = 3;
      offset = 0x100F0E0D;
      type_id = 0x14131211;
      flags = 0x16151A81;
      name = name;
      type_name = type_name;
      comment = comment;
      guid = Some guid;
      attributes = told_attributes;
      arrays = record { lower_bound = 0x34333231; elements = 0x38373635 } ∷ [];
      sub_items = 2;
      member_count = 4;
    }

-- of bytes that lie at a place in memory, in a mode
module _ (m : ℕ × ℕ) (mode : Mode) where
  abbrev read : Result AdsDataTypeInfo Refusal
  read = parse_of 42 (type_of mode) (record { ref_ptr = m; now = sent })

  -- where the member with a number stands
  abbrev position : ℕ → Result Position Refusal
  position number = and_then read (λ r. map_ok (λ m. m.position) (numbered r number))

  pub record Types : Type 0 where
    pub whole : map_ok told_of read ≡ Ok told
    -- each number's member: parents before children, the first sub-item before the second
    pub first : position 0 ≡ Ok (record { path = 59 ∷ replicate 14 0; depth = 2; offset = 1 })
    pub second : position 1 ≡ Ok (record { path = 104 ∷ replicate 14 0; depth = 2; offset = 2 })
    pub child : position 2 ≡ Ok (record { path = 104 ∷ 149 ∷ replicate 13 0; depth = 3; offset = 6 })
    pub grandchild : position 3 ≡ Ok (record { path = 104 ∷ 149 ∷ 194 ∷ replicate 12 0; depth = 4; offset = 14 })

-- wherever the bytes lie, in either mode
abbrev pub TypesLineUp : Type 0
TypesLineUp = (m : ℕ × ℕ) (mode : Mode) → Types m mode

-- docs/FORMAT.md, "Field entries", "Attributes" and "Writing": a field in which every number is another, as it is read and as it is written; and the least
-- ones, of which the flags decide what is read.
use Rattle.std.specs.Prelude.{ℕ, ◌+◌, ◌≡◌, List, [], ◌∷◌, ◌++◌, replicate, length, Option, Some, None, Result, Ok}
use Rattle.std.specs.Borrow.{Bor}
use Rattle.refusal.specs.declared.Mode.{Mode}
use Rattle.refusal.specs.declared.Refusal.{Refusal}
use Rattle.attribute.specs.Told as attributes
use Rattle.walk.specs.Mapped.{map_ok}
use Rattle.walk.specs.Step.{parse_of}
use Rattle.field.specs.Field.{field_of}
use Rattle.field.specs.Told.{Told, told_of}
use Rattle.field.specs.Writing.{field_written}
use Rattle.field.specs.declared.writer.NewField.{NewField}
use Rattle.lineup.specs.Symbols.{name, type_name, comment, guid, block, told_attributes}

-- version, hash, type hash, size, offset, type id
abbrev numbers : List ℕ
numbers =
    (0x01 ∷ 0x02 ∷ 0x03 ∷ 0x04 ∷ []) ++ (0x05 ∷ 0x06 ∷ 0x07 ∷ 0x08 ∷ []) ++ (0x09 ∷ 0x0A ∷ 0x0B ∷ 0x0C ∷ [])
    ++ (3 ∷ 0 ∷ 0 ∷ 0 ∷ []) ++ (0x0D ∷ 0x0E ∷ 0x0F ∷ 0x10 ∷ []) ++ (0x11 ∷ 0x12 ∷ 0x13 ∷ 0x14 ∷ [])

-- the lengths of the strings, and the strings, each with its end byte
abbrev lengths : List ℕ
lengths = 2 ∷ 0 ∷ 3 ∷ 0 ∷ 1 ∷ 0 ∷ []

abbrev strings : List ℕ
strings = name ++ (0 ∷ []) ++ type_name ++ (0 ∷ []) ++ comment ++ (0 ∷ [])

-- an entry of 120 bytes, as it is sent
abbrev sent : List ℕ
sent =
    (120 ∷ 0 ∷ 0 ∷ 0 ∷ []) ++ numbers ++ (0x81 ∷ 0x1A ∷ 0x15 ∷ 0x16 ∷ []) ++ lengths
    -- an array record, two sub-items
    ++ (1 ∷ 0 ∷ 2 ∷ 0 ∷ []) ++ strings
    ++ (0x31 ∷ 0x32 ∷ 0x33 ∷ 0x34 ∷ 0x35 ∷ 0x36 ∷ 0x37 ∷ 0x38 ∷ []) ++ (6 ∷ 0 ∷ 0 ∷ 0 ∷ 0x41 ∷ 0x42 ∷ []) ++ (5 ∷ 0 ∷ 0 ∷ 0 ∷ 0x43 ∷ [])
    -- GUID, copy mask, a count and methods, a count and attributes
    ++ guid ++ (0x51 ∷ 0x52 ∷ 0x53 ∷ []) ++ (2 ∷ 0 ∷ []) ++ (5 ∷ 0 ∷ 0 ∷ 0 ∷ 0x44 ∷ []) ++ (4 ∷ 0 ∷ 0 ∷ 0 ∷ []) ++ (2 ∷ 0 ∷ []) ++ block
    -- what is skipped
    ++ (0x61 ∷ 0x62 ∷ 0x63 ∷ [])

-- one of 87 bytes, as it is written: without array records, sub-items and methods, and with zeros for the copy mask
abbrev made : List ℕ
made =
    (87 ∷ 0 ∷ 0 ∷ 0 ∷ []) ++ numbers ++ (0x81 ∷ 0x12 ∷ 0x15 ∷ 0x16 ∷ []) ++ lengths
    ++ (0 ∷ 0 ∷ 0 ∷ 0 ∷ []) ++ strings
    ++ guid ++ (0 ∷ 0 ∷ 0 ∷ []) ++ (2 ∷ 0 ∷ []) ++ block

abbrev told : ℕ → Told
told word =
    record {
      version = 0x04030201;
      hash_value = 0x08070605;
      type_hash_value = 0x0C0B0A09;
      size = 3;
      offset = 0x100F0E0D;
      type_id = 0x14131211;
      flags = record { 0 = word };
      name = name;
      type_name = type_name;
      comment = comment;
      guid = Some guid;
      attributes = told_attributes;
    }

-- the least entry whose size is 1 and whose flags are these two bytes, and what stands behind its strings
abbrev least : ℕ → ℕ → List ℕ → List ℕ
least low high more = (45 + length more) ∷ replicate 15 0 ++ (1 ∷ replicate 11 0) ++ (low ∷ high ∷ replicate 15 0 ++ more)

-- what is told of it, with so many attributes
abbrev told_least : ℕ → Option (List ℕ) → List attributes.Told → Told
told_least word found all =
    record {
      version = 0;
      hash_value = 0;
      type_hash_value = 0;
      size = 1;
      offset = 0;
      type_id = 0;
      flags = record { 0 = word };
      name = [];
      type_name = [];
      comment = [];
      guid = found;
      attributes = all;
    }

-- a count of one, and an attribute without name and value
abbrev one : List ℕ
one = 1 ∷ 0 ∷ 0 ∷ 0 ∷ 0 ∷ 0 ∷ []

abbrev told_one : List attributes.Told
told_one = record { name = []; value = [] } ∷ []

-- of bytes that lie at a place in memory, in a mode
module _ (m : ℕ × ℕ) (mode : Mode) where
  abbrev lying : List ℕ → Bor (List ℕ)
  lying s = record { ref_ptr = m; now = s }

  abbrev read : List ℕ → Result Told Refusal
  read s = map_ok told_of (parse_of 42 (field_of mode) (lying s))

  abbrev new : NewField
  new =
      record {
        version = 0x04030201;
        hash_value = 0x08070605;
        type_hash_value = 0x0C0B0A09;
        size = 3;
        offset = 0x100F0E0D;
        type_id = 0x14131211;
        flags = record { 0 = 0x16151281 };
        name = lying name;
        type_name = lying type_name;
        comment = lying comment;
        guid = Some guid;
        attributes = record { bytes = lying block; count = 2 };
      }

  pub record Fields : Type 0 where
    pub written : field_written new ≡ Ok made
    pub written_read : read made ≡ Ok (told 0x16151281)
    pub sections : read sent ≡ Ok (told 0x16151A81)
    -- 0x0080: a GUID
    pub guid_flagged : read (least 0x80 0x10 (guid ++ one)) ≡ Ok (told_least 0x1080 (Some guid) told_one)
    -- 0x0200: a copy mask of one byte
    pub mask_flagged : read (least 0 0x12 (2 ∷ one)) ≡ Ok (told_least 0x1200 None told_one)
    -- 0x0800: a count, here one, and a method of 7 bytes
    pub methods_flagged : read (least 0 0x18 ((1 ∷ 0 ∷ 7 ∷ 0 ∷ 0 ∷ 0 ∷ 2 ∷ 3 ∷ 4 ∷ []) ++ one)) ≡ Ok (told_least 0x1800 None told_one)
    -- 0x1000: attributes; no other flag has a section
    pub attributes_flagged : read (least 0 0x10 one) ≡ Ok (told_least 0x1000 None told_one)
    pub others_flagged : read (least 0x7F 0xE5 one) ≡ Ok (told_least 0xE57F None [])

-- wherever the bytes lie, in either mode
abbrev pub FieldsLineUp : Type 0
FieldsLineUp = (m : ℕ × ℕ) (mode : Mode) → Fields m mode

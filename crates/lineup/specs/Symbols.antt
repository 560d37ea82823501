-- docs/FORMAT.md, "Symbol entries", "Attributes", "Refactor records" and "Writing": a symbol in which every number is another, as it is read and as it is
-- written; and the least ones, of which a single flag decides what is read.
use Rattle.std.specs.Prelude.{ℕ, ◌+◌, ◌≡◌, true, false, List, [], ◌∷◌, ◌++◌, replicate, length, Option, Some, None, Result, Ok}
use Rattle.std.specs.Borrow.{Bor}
use Rattle.std.specs.Option.{option_map}
use Rattle.refusal.specs.declared.Mode.{Mode}
use Rattle.refusal.specs.declared.Refusal.{Refusal}
use Rattle.attribute.specs.Told as attributes
use Rattle.refactor.specs.Told as refactors
use Rattle.walk.specs.Mapped.{map_ok}
use Rattle.walk.specs.Step.{parse_of}
use Rattle.symbol.specs.Symbol.{symbol_of}
use Rattle.symbol.specs.Told.{Told, told_of}
use Rattle.symbol.specs.Writing.{symbol_written}
use Rattle.symbol.specs.declared.writer.NewSymbol.{NewSymbol}

abbrev pub name : List ℕ
name = 0x41 ∷ 0x42 ∷ []

abbrev pub type_name : List ℕ
type_name = 0x43 ∷ 0x44 ∷ 0x45 ∷ []

abbrev pub comment : List ℕ
comment = 0x46 ∷ []

abbrev pub guid : List ℕ
guid = 0xA0 ∷ 0xA1 ∷ 0xA2 ∷ 0xA3 ∷ 0xA4 ∷ 0xA5 ∷ 0xA6 ∷ 0xA7 ∷ 0xA8 ∷ 0xA9 ∷ 0xAA ∷ 0xAB ∷ 0xAC ∷ 0xAD ∷ 0xAE ∷ 0xAF ∷ []

-- two attributes, in 8 and in 7 bytes: "a" is "bcd", and "ef" is "g"
abbrev pub block : List ℕ
block = (1 ∷ 3 ∷ 0x61 ∷ 0 ∷ 0x62 ∷ 0x63 ∷ 0x64 ∷ 0 ∷ []) ++ (2 ∷ 1 ∷ 0x65 ∷ 0x66 ∷ 0 ∷ 0x67 ∷ 0 ∷ [])

abbrev pub told_attributes : List attributes.Told
told_attributes = record { name = 0x61 ∷ []; value = 0x62 ∷ 0x63 ∷ 0x64 ∷ [] } ∷ record { name = 0x65 ∷ 0x66 ∷ []; value = 0x67 ∷ [] } ∷ []

-- two former names, "h" and "ij", behind packed counts of which these are the highest bytes, and the others alike
abbrev chain : ℕ → ℕ → ℕ → List ℕ
chain others first second = (others ∷ others ∷ others ∷ first ∷ 1 ∷ 0 ∷ 0x68 ∷ 0 ∷ []) ++ (others ∷ others ∷ others ∷ second ∷ 2 ∷ 0 ∷ 0x69 ∷ 0x6A ∷ 0 ∷ [])

-- the bits of the mask, in the first with the follower's
abbrev chain_written : List ℕ
chain_written = chain 0x11 0x01 0x00

-- every bit, in the second but the follower's: they tell the same
abbrev chain_of_bits : List ℕ
chain_of_bits = chain 0xFF 0xFF 0xFE

abbrev told_records : List refactors.Told
told_records = record { count = 0x01111111; followed = true; name = 0x68 ∷ [] } ∷ record { count = 0x00111111; followed = false; name = 0x69 ∷ 0x6A ∷ [] } ∷ []

-- an entry of so many bytes, with this chain, and these bytes behind it
abbrev entry : ℕ → List ℕ → List ℕ → List ℕ
entry size former more =
    (size ∷ 0 ∷ 0 ∷ 0 ∷ [])
    -- group, offset, size, type id
    ++ (0x01 ∷ 0x02 ∷ 0x03 ∷ 0x04 ∷ []) ++ (0x05 ∷ 0x06 ∷ 0x07 ∷ 0x08 ∷ []) ++ (0x09 ∷ 0x0A ∷ 0x0B ∷ 0x0C ∷ []) ++ (0x0D ∷ 0x0E ∷ 0x0F ∷ 0x10 ∷ [])
    -- flags, high, and the lengths of the strings
    ++ (0x09 ∷ 0x90 ∷ []) ++ (0x12 ∷ 0x11 ∷ []) ++ (2 ∷ 0 ∷ 3 ∷ 0 ∷ 1 ∷ 0 ∷ [])
    -- the strings, each with its end byte
    ++ name ++ (0 ∷ []) ++ type_name ++ (0 ∷ []) ++ comment ++ (0 ∷ [])
    -- GUID, count and attributes, extended flags, chain
    ++ guid ++ (2 ∷ 0 ∷ []) ++ block ++ (0x04 ∷ 0x21 ∷ 0x22 ∷ 0x23 ∷ []) ++ former ++ more

-- what is told of it
abbrev told : List ℕ → Told
told more =
    record {
      index_group = record { 0 = 0x04030201 };
      index_offset = record { 0 = 0x08070605 };
      size = 0x0C0B0A09;
      data_type_id = 0x100F0E0D;
      flags = record { 0 = 0x9009 };
      high = 0x1112;
      name = name;
      type_name = type_name;
      comment = comment;
      guid = Some guid;
      attributes = told_attributes;
      extended_flags = Some (record { 0 = 0x23222104 });
      refactor_infos = told_records;
      unread = more;
    }

-- the least entry whose flags are these two bytes, and what stands behind its strings
abbrev least : ℕ → ℕ → List ℕ → List ℕ
least low high more = (33 + length more) ∷ replicate 19 0 ++ (low ∷ high ∷ replicate 11 0 ++ more)

-- nothing, and what may be read of it
abbrev told_least : ℕ → Option (List ℕ) → Option ℕ → List refactors.Told → List ℕ → Told
told_least word found extended records more =
    record {
      index_group = record { 0 = 0 };
      index_offset = record { 0 = 0 };
      size = 0;
      data_type_id = 0;
      flags = record { 0 = word };
      high = 0;
      name = [];
      type_name = [];
      comment = [];
      guid = found;
      attributes = [];
      extended_flags = option_map (λ (w : ℕ). record { 0 = w }) extended;
      refactor_infos = records;
      unread = more;
    }

-- of bytes that lie at a place in memory, in a mode
module _ (m : ℕ × ℕ) (mode : Mode) where
  abbrev lying : List ℕ → Bor (List ℕ)
  lying s = record { ref_ptr = m; now = s }

  abbrev read : List ℕ → Result Told Refusal
  read s = map_ok told_of (parse_of 30 (symbol_of mode) (lying s))

  abbrev new : NewSymbol
  new =
      record {
        index_group = record { 0 = 0x04030201 };
        index_offset = record { 0 = 0x08070605 };
        size = 0x0C0B0A09;
        data_type_id = 0x100F0E0D;
        flags = record { 0 = 0x9009 };
        high = 0x1112;
        name = lying name;
        type_name = lying type_name;
        comment = lying comment;
        guid = Some guid;
        attributes = record { bytes = lying block; count = 2 };
        extended_flags = record { 0 = 0x23222104 };
        refactor_infos = record { bytes = lying chain_written; count = 2 };
      }

  pub record Symbols : Type 0 where
    pub written : symbol_written new ≡ Ok (entry 93 chain_written [])
    pub written_read : read (entry 93 chain_written []) ≡ Ok (told [])
    -- with three bytes behind the chain
    pub masked : read (entry 96 chain_of_bits (0x71 ∷ 0x72 ∷ 0x73 ∷ [])) ≡ Ok (told (0x71 ∷ 0x72 ∷ 0x73 ∷ []))
    -- 0x0008: a GUID
    pub guid_flagged : read (least 0x08 0 guid) ≡ Ok (told_least 0x0008 (Some guid) None [] [])
    -- 0x1000: a count of attributes, here 0
    pub attributes_flagged : read (least 0 0x10 (0 ∷ 0 ∷ 1 ∷ 2 ∷ [])) ≡ Ok (told_least 0x1000 None None [] (1 ∷ 2 ∷ []))
    -- 0x8000: extended flags
    pub extended_flagged : read (least 0 0x80 (0 ∷ 0 ∷ 1 ∷ 2 ∷ [])) ≡ Ok (told_least 0x8000 None (Some 0x02010000) [] [])
    -- no other flag has a section
    pub others_flagged : read (least 0xF7 0x6F guid) ≡ Ok (told_least 0x6FF7 None None [] guid)
    -- extended flag 0x0004: a chain, here of a record of 7 bytes; no other has one
    pub chain_flagged : read (least 0 0x80 (4 ∷ replicate 10 0)) ≡ Ok (told_least 0x8000 None (Some 4) (record { count = 0; followed = false; name = [] } ∷ []) [])
    pub no_chain_flagged : read (least 0 0x80 (0xFB ∷ 0xFF ∷ 0xFF ∷ 0xFF ∷ replicate 7 0)) ≡ Ok (told_least 0x8000 None (Some 0xFFFFFFFB) [] (replicate 7 0))

-- wherever the bytes lie, in either mode
abbrev pub SymbolsLineUp : Type 0
SymbolsLineUp = (m : ℕ × ℕ) (mode : Mode) → Symbols m mode

-- docs/FORMAT.md, "Refusals": the least cases of the refusals that the line-up table has not, by number and figures.
use Rattle.std.specs.Prelude.{ℕ, suc, zero, ◌+◌, ◌*◌, ◌≡◌, List, [], ◌∷◌, ◌++◌, replicate, None, Result, Err}
use Rattle.std.specs.Borrow.{Bor}
use Rattle.le.specs.Le.{bytes4}
use Rattle.refusal.specs.Refusal.{limit, numbered, figures_of}
use Rattle.refusal.specs.declared.Mode.{Mode}
use Rattle.refusal.specs.declared.Mode.TheVariants.{Checked}
use Rattle.refusal.specs.declared.Refusal.{Refusal}
use Rattle.refusal.specs.declared.Refusal.TheVariants.{TooLarge, BadHexadecimal}
use Rattle.attribute.specs.Attribute as attribute
use Rattle.attribute.specs.Writing.{attribute_writing}
use Rattle.writing.specs.Writing.{Writes}
use Rattle.walk.specs.Step.{parse_of}
use Rattle.symbol.specs.Writing.{symbol_written}
use Rattle.symbol.specs.declared.writer.NewSymbol.{NewSymbol}
use Rattle.symbol_find.specs.Find.{find}
use Rattle.data_type.specs.DataType.{type_of}
use Rattle.text.specs.Text.{decoding, encoding}
use Rattle.lineup.specs.LineUp.{figured}

-- a data type entry of 45 bytes, and so many levels above it, each a sub-item of the next
abbrev nested : ℕ → List ℕ
nested zero = 45 ∷ replicate 44 0
nested (suc levels) = bytes4 (45 * (levels + 2)) ++ replicate 36 0 ++ (1 ∷ replicate 4 0) ++ nested levels

-- of bytes that lie at a place in memory, in a mode
module _ (m : ℕ × ℕ) (mode : Mode) where
  abbrev lying : List ℕ → Bor (List ℕ)
  lying s = record { ref_ptr = m; now = s }

  -- a symbol without a name, with these flags, and so many attributes and refactor records in blocks that are empty
  abbrev new : ℕ → ℕ → ℕ → NewSymbol
  new word attribute_count record_count =
      record {
        index_group = record { 0 = 0 };
        index_offset = record { 0 = 0 };
        size = 0;
        data_type_id = 0;
        flags = record { 0 = word };
        high = 0;
        name = lying [];
        type_name = lying [];
        comment = lying [];
        guid = None;
        attributes = record { bytes = lying []; count = attribute_count };
        extended_flags = record { 0 = 0 };
        refactor_infos = record { bytes = lying []; count = record_count };
      }

  pub record Refusals : Type 0 where
    -- no input and no entry has more than 16 MiB: 5 (16777216, its length)
    pub largest : limit ≡ 16777216
    pub too_large : figures_of (TooLarge 16777217) ≡ numbered 5 16777216 16777217
    -- a byte decoded into nothing: 6 (1, 0)
    pub no_room : (new : List ℕ) (r : Result ℕ Refusal) → Writes (decoding (0x41 ∷ [])) [] new r → figured r ≡ Err (numbered 6 1 0)
    -- an attribute's name of 256 bytes, and more attributes than a count of 2 bytes holds: 7
    pub long_name : figured (attribute_writing (record { name = replicate 256 0x41; value = [] })) ≡ Err (numbered 7 255 256)
    pub many_attributes : figured (symbol_written (new 0x1000 65536 0)) ≡ Err (numbered 7 65535 65536)
    -- a GUID that is flagged and not given: 8 (1, 0)
    pub no_guid : figured (symbol_written (new 0x0008 0 0)) ≡ Err (numbered 8 1 0)
    -- a block that has none of its two, of attributes and of refactor records: 9 (2, 0)
    pub no_attributes : figured (symbol_written (new 0x1000 2 0)) ≡ Err (numbered 9 2 0)
    pub no_records : figured (symbol_written (new 0 0 2)) ≡ Err (numbered 9 2 0)
    -- a claim of 0, met by finding: 10 (1, 0)
    pub zero_claim : figured (find mode (lying (0 ∷ 0 ∷ 0 ∷ 0 ∷ [])) (0x41 ∷ [])) ≡ Err (numbered 10 1 0)
    -- the byte FF as text, and a character that is no byte: 11 (0, 1) and 11 (0, 2)
    pub no_text : figured (encoding (0xFF ∷ [])) ≡ Err (numbered 11 0 1)
    pub no_byte : figured (encoding (0xE4 ∷ 0xB8 ∷ 0x80 ∷ [])) ≡ Err (numbered 11 0 2)
    pub bad_digits : figures_of BadHexadecimal ≡ numbered 12 0 0
    -- a name in an empty upload: 13
    pub nothing_named : figured (find mode (lying []) (0x41 ∷ [])) ≡ Err (numbered 13 0 0)
    -- of no attributes the first, and the one with the number 7: 14 (0, 0) and 14 (0, 7)
    pub no_first : figured (attribute.numbered [] 0 0) ≡ Err (numbered 14 0 0)
    pub no_seventh : figured (attribute.numbered [] 0 7) ≡ Err (numbered 14 0 7)
    -- 17 data type entries, each a sub-item of the next: 15 (16, 17)
    pub deep : figured (parse_of 42 (type_of mode) (lying (nested 16))) ≡ Err (numbered 15 16 17)
    -- an attribute whose last byte is 1, where that is looked at: 16 (3, 1)
    pub end_byte : figured (attribute.alone Checked (lying (0 ∷ 0 ∷ 0 ∷ 1 ∷ []))) ≡ Err (numbered 16 3 1)

-- wherever the bytes lie, in either mode
abbrev pub RefusalsLineUp : Type 0
RefusalsLineUp = (m : ℕ × ℕ) (mode : Mode) → Refusals m mode

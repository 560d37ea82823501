-- The line-up table: L1 to L12, of the present mode. docs/FORMAT.md, "Walking", "Direct reading", "Symbol entries", "Attributes" and "Refactor records".
use Rattle.std.specs.Prelude.{ℕ, ◌≡◌, true, false, List, [], ◌∷◌, replicate, Option, Some, None, Result, Ok, Err}
use Rattle.std.specs.Borrow.{Bor}
use Rattle.std.specs.Option.{option_map}
use Rattle.part.specs.Slice.{part, after}
use Rattle.refusal.specs.Refusal.{numbered, figures_of}
use Rattle.refusal.specs.declared.Figures.{Figures}
use Rattle.refusal.specs.declared.Mode.TheVariants.{Present}
use Rattle.refusal.specs.declared.Refusal.{Refusal}
use Rattle.attribute.specs.Attribute as attribute
use Rattle.attribute.specs.declared.AdsAttribute.{AdsAttribute}
use Rattle.refactor.specs.Refactor as refactor
use Rattle.refactor.specs.declared.AdsRefactorInfo.{AdsRefactorInfo}
use Rattle.walk.specs.Step.{parse_of, step_at}
use Rattle.walk.specs.declared.Stepped.{Stepped}
use Rattle.symbol.specs.Symbol.{symbol_of}
use Rattle.symbol.specs.declared.AdsSymbolInfo.{AdsSymbolInfo}
use Rattle.field.specs.Field.{field_of}
use Rattle.field.specs.declared.AdsFieldInfo.{AdsFieldInfo}

-- so many bytes that claim a length below 256 and are 0 after it
abbrev claiming : ℕ → ℕ → List ℕ
claiming claim more = claim ∷ replicate more 0

-- the 37 bytes of an entry: INT Z
abbrev entry37 : List ℕ
entry37 =
    0x25 ∷ 0 ∷ 0 ∷ 0 ∷ 0x20 ∷ 0x40 ∷ 0 ∷ 0 ∷ 8 ∷ 0 ∷ 0 ∷ 0 ∷ 2 ∷ 0 ∷ 0 ∷ 0 ∷ 2 ∷ 0 ∷ 0 ∷ 0 ∷ 0 ∷ 0 ∷ 0 ∷ 0 ∷ 1 ∷ 0 ∷ 3 ∷ 0 ∷ 0 ∷ 0
    ∷ 0x5A ∷ 0 ∷ 0x49 ∷ 0x4E ∷ 0x54 ∷ 0 ∷ 0 ∷ []

-- an answer, a refusal by its number and figures
abbrev pub figured : {R : Type 0} → Result R Refusal → Result R Figures
figured (Ok r) = Ok r
figured (Err why) = Err (figures_of why)

-- of bytes that lie at a place in memory
module _ (m : ℕ × ℕ) where
  abbrev lying : List ℕ → Bor (List ℕ)
  lying s = record { ref_ptr = m; now = s }

  -- a step from the start of an upload, and the place where the next one begins
  abbrev walked : List ℕ → Option (Result AdsSymbolInfo Figures) × ℕ
  walked s = let t : Stepped AdsSymbolInfo = step_at (symbol_of Present) (lying s) 0 in (option_map figured t.answer, t.cursor.at)

  -- a symbol, and a field, read directly
  abbrev symbol : List ℕ → Result AdsSymbolInfo Figures
  symbol s = figured (parse_of 30 (symbol_of Present) (lying s))

  abbrev field : List ℕ → Result AdsFieldInfo Figures
  field s = figured (parse_of 42 (field_of Present) (lying s))

  -- an attribute, and a refactor record, at the start of some bytes, and the bytes after it
  abbrev attribute_first : List ℕ → Result (AdsAttribute × Bor (List ℕ)) Figures
  attribute_first s = figured (attribute.first_of (lying s))

  abbrev refactor_first : List ℕ → Result (AdsRefactorInfo × Bor (List ℕ)) Figures
  refactor_first s = figured (refactor.first_of (lying s))

  abbrev attribute_alone : List ℕ → Result AdsAttribute Figures
  attribute_alone s = figured (attribute.alone Present (lying s))

  abbrev refactor_alone : List ℕ → Result AdsRefactorInfo Figures
  refactor_alone s = figured (refactor.alone Present (lying s))

  -- the parts of the 37 bytes, and of L8 and L10
  abbrev own37 : Bor (List ℕ)
  own37 = part (lying entry37) 0 37

  abbrev attribute8 : List ℕ
  attribute8 = 1 ∷ 1 ∷ 0x75 ∷ 0 ∷ 0xB0 ∷ 0 ∷ []

  abbrev refactor10 : List ℕ
  refactor10 = 1 ∷ 0 ∷ 0 ∷ 1 ∷ 1 ∷ 0 ∷ 0x41 ∷ 0 ∷ []

  abbrev refactor11 : List ℕ
  refactor11 = 2 ∷ 0 ∷ 0 ∷ 0 ∷ 0 ∷ 0 ∷ 0 ∷ []

  pub record Lines : Type 0 where
    -- empty data: finished
    pub l1 : walked [] ≡ (None, 0)
    -- one byte at cursor 0: 2 (4, 1)
    pub l2 : (b : ℕ) → walked (b ∷ []) ≡ (Some (Err (numbered 2 4 1)), 1)
    -- claim 0: 2 (30, 0), and the cursor does not move
    pub l3 : walked (claiming 0 3) ≡ (Some (Err (numbered 2 30 0)), 0)
    -- claim 29 in 29 bytes, walked: 2 (30, 29)
    pub l4 : walked (claiming 29 28) ≡ (Some (Err (numbered 2 30 29)), 29)
    -- direct, 30 bytes claiming 29: 4 (30, 29)
    pub l5 : symbol (claiming 29 29) ≡ Err (numbered 4 30 29)
    -- 30 bytes claiming 30, lengths 0: 3 (33, 30)
    pub l6 : symbol (claiming 30 29) ≡ Err (numbered 3 33 30)
    -- the 37-byte entry
    pub l7 : symbol entry37 ≡ Ok (record {
      length = 37;
      index_group = record { 0 = 16416 };
      index_offset = record { 0 = 8 };
      size = 2;
      data_type_id = 2;
      flags = record { 0 = 0 };
      high = 0;
      name = part own37 30 1;
      type_name = part own37 32 3;
      comment = part own37 36 0;
      guid = None;
      attributes = record { bytes = after own37 37; count = 0 };
      extended_flags = None;
      refactor_infos = record { bytes = after own37 37; count = 0 };
      unread = after own37 37;
    })
    pub l7_name : (part own37 30 1).now ≡ 0x5A ∷ []
    pub l7_type_name : (part own37 32 3).now ≡ 0x49 ∷ 0x4E ∷ 0x54 ∷ []
    pub l7_comment : (part own37 36 0).now ≡ []
    pub l7_unread : (after own37 37).now ≡ []
    -- attribute 01 01 75 00 B0 00: six bytes
    pub l8 : attribute_alone attribute8 ≡ Ok (record { name = part (lying attribute8) 2 1; value = part (lying attribute8) 4 1 })
    pub l8_takes : attribute_first attribute8 ≡ Ok (record { name = part (lying attribute8) 2 1; value = part (lying attribute8) 4 1 }, after (lying attribute8) 6)
    pub l8_name : (part (lying attribute8) 2 1).now ≡ 0x75 ∷ []
    pub l8_value : (part (lying attribute8) 4 1).now ≡ 0xB0 ∷ []
    -- the same without its last byte: 1 (6, 5)
    pub l9 : attribute_alone (1 ∷ 1 ∷ 0x75 ∷ 0 ∷ 0xB0 ∷ []) ≡ Err (numbered 1 6 5)
    -- refactor 01 00 00 01 01 00 41 00: count 0x01000001, follower
    pub l10 : refactor_alone refactor10 ≡ Ok (record { refactor_count = 0x01000001; next_refactor_info = true; name = part (lying refactor10) 6 1 })
    pub l10_takes : refactor_first refactor10 ≡ Ok (record { refactor_count = 0x01000001; next_refactor_info = true; name = part (lying refactor10) 6 1 }, after (lying refactor10) 8)
    pub l10_name : (part (lying refactor10) 6 1).now ≡ 0x41 ∷ []
    -- packed 2: count 0
    pub l11 : refactor_alone refactor11 ≡ Ok (record { refactor_count = 0; next_refactor_info = false; name = part (lying refactor11) 6 0 })
    pub l11_takes : refactor_first refactor11 ≡ Ok (record { refactor_count = 0; next_refactor_info = false; name = part (lying refactor11) 6 0 }, after (lying refactor11) 7)
    -- direct field, 42 bytes claiming 41: 4 (42, 41)
    pub l12 : field (claiming 41 41) ≡ Err (numbered 4 42 41)

-- wherever the bytes lie
abbrev pub LineUp : Type 0
LineUp = (m : ℕ × ℕ) → Lines m

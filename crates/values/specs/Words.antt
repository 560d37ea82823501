-- docs/FORMAT.md, "The command's text": flag words, word for word, each bit alone and all from the lowest on, and what is said of no string.
use Rattle.std.specs.Prelude.{ℕ, ◌≡◌, List, [], ◌∷◌, codes}
use Rattle.wording.specs.Text.{shown}
use Rattle.values.specs.Names.{extended_text, flags_text, former_text, or_none}

pub record WordsMeant : Type 0 where
  pub persistent : flags_text 0x0001 ≡ codes "0x0001, PERSISTENT"
  pub bit_value : flags_text 0x0002 ≡ codes "0x0002, BIT_VALUE"
  pub reference_to : flags_text 0x0004 ≡ codes "0x0004, REFERENCE_TO"
  pub type_guid : flags_text 0x0008 ≡ codes "0x0008, TYPE_GUID"
  pub interface_ptr : flags_text 0x0010 ≡ codes "0x0010, TCOM_INTERFACE_PTR"
  pub read_only : flags_text 0x0020 ≡ codes "0x0020, READ_ONLY"
  pub method_access : flags_text 0x0040 ≡ codes "0x0040, ITF_METHOD_ACCESS"
  pub method_deref : flags_text 0x0080 ≡ codes "0x0080, METHOD_DEREF"
  pub context_one : flags_text 0x0100 ≡ codes "0x0100, context 1"
  pub context_fifteen : flags_text 0x0F00 ≡ codes "0x0F00, context 15"
  pub attributes : flags_text 0x1000 ≡ codes "0x1000, ATTRIBUTES"
  pub static : flags_text 0x2000 ≡ codes "0x2000, STATIC"
  pub init_on_reset : flags_text 0x4000 ≡ codes "0x4000, INIT_ON_RESET"
  pub extended_flags : flags_text 0x8000 ≡ codes "0x8000, EXTENDED_FLAGS"
  pub many : flags_text 0x9308 ≡ codes "0x9308, TYPE_GUID, ATTRIBUTES, EXTENDED_FLAGS, context 3"
  pub all : flags_text 0xF0FF
      ≡ codes "0xF0FF, PERSISTENT, BIT_VALUE, REFERENCE_TO, TYPE_GUID, TCOM_INTERFACE_PTR, READ_ONLY, ITF_METHOD_ACCESS, METHOD_DEREF, ATTRIBUTES, STATIC, INIT_ON_RESET, EXTENDED_FLAGS"
  pub no_flags : flags_text 0 ≡ codes "0x0000, none"
  pub pointer_type : extended_text 0x01 ≡ codes "0x00000001, PLC_POINTER_TYPE"
  pub redundancy_ignore : extended_text 0x02 ≡ codes "0x00000002, REDUNDANCY_IGNORE"
  pub refactor_info : extended_text 0x04 ≡ codes "0x00000004, REFACTOR_INFO"
  pub online_change : extended_text 0x08 ≡ codes "0x00000008, ONLINE_CHANGE_PTR_REF_TYPE"
  pub variant_type : extended_text 0x10 ≡ codes "0x00000010, VARIANT_TYPE"
  pub all_extended : extended_text 0x1F ≡ codes "0x0000001F, PLC_POINTER_TYPE, REDUNDANCY_IGNORE, REFACTOR_INFO, ONLINE_CHANGE_PTR_REF_TYPE, VARIANT_TYPE"
  pub nameless : extended_text 0x12345674 ≡ codes "0x12345674, REFACTOR_INFO, VARIANT_TYPE, and 0x12345660, which has no name"
  pub no_extended : extended_text 0 ≡ codes "0x00000000, none"
  pub empty : or_none [] ≡ codes "none"
  pub some : (b : ℕ) (s : List ℕ) → or_none (b ∷ s) ≡ shown (b ∷ s)
  pub no_former : former_text [] ≡ codes "(no name)"
  pub some_former : (b : ℕ) (s : List ℕ) → former_text (b ∷ s) ≡ shown (b ∷ s)

-- docs/FORMAT.md, "Symbol entries", and the maker's header: the value of each extended flag of a symbol, by its bit.
use Rattle.std.specs.Prelude.{◌≡◌}
use Rattle.flags.specs.declared.symbol_flags.TheConstants.AdsSymbol2Flags.{
  PLC_POINTER_TYPE,
  REDUNDANCY_IGNORE,
  REFACTOR_INFO,
  ONLINE_CHANGE_PTR_REF_TYPE,
  VARIANT_TYPE,
}

pub record ExtendedBits : Type 0 where
  pub plc_pointer_type : PLC_POINTER_TYPE.0 ≡ 0x00000001
  pub redundancy_ignore : REDUNDANCY_IGNORE.0 ≡ 0x00000002
  pub refactor_info : REFACTOR_INFO.0 ≡ 0x00000004
  pub online_change_ptr_ref_type : ONLINE_CHANGE_PTR_REF_TYPE.0 ≡ 0x00000008
  pub variant_type : VARIANT_TYPE.0 ≡ 0x00000010

-- docs/FORMAT.md, "Symbol entries", and the maker's header: the value of each flag of a symbol, by its bits.
use Rattle.std.specs.Prelude.{◌≡◌}
use Rattle.flags.specs.declared.symbol_flags.TheConstants.AdsSymbolFlags.{
  PERSISTENT,
  BIT_VALUE,
  REFERENCE_TO,
  TYPE_GUID,
  TCOM_INTERFACE_PTR,
  READ_ONLY,
  ITF_METHOD_ACCESS,
  METHOD_DEREF,
  CONTEXT_MASK,
  ATTRIBUTES,
  STATIC,
  INIT_ON_RESET,
  EXTENDED_FLAGS,
}

pub record SymbolBits : Type 0 where
  pub persistent : PERSISTENT.0 ≡ 0x0001
  pub bit_value : BIT_VALUE.0 ≡ 0x0002
  pub reference_to : REFERENCE_TO.0 ≡ 0x0004
  pub type_guid : TYPE_GUID.0 ≡ 0x0008
  pub tcom_interface_ptr : TCOM_INTERFACE_PTR.0 ≡ 0x0010
  pub read_only : READ_ONLY.0 ≡ 0x0020
  pub itf_method_access : ITF_METHOD_ACCESS.0 ≡ 0x0040
  pub method_deref : METHOD_DEREF.0 ≡ 0x0080
  pub context_mask : CONTEXT_MASK.0 ≡ 0x0F00
  pub attributes : ATTRIBUTES.0 ≡ 0x1000
  pub static : STATIC.0 ≡ 0x2000
  pub init_on_reset : INIT_ON_RESET.0 ≡ 0x4000
  pub extended_flags : EXTENDED_FLAGS.0 ≡ 0x8000

-- docs/FORMAT.md, "Field entries", and the maker's header: the value of each flag of a field, by its bit.
use Rattle.std.specs.Prelude.{◌≡◌}
use Rattle.flags.specs.declared.type_flags.TheConstants.AdsTypeFlags.{
  DATA_TYPE,
  DATA_ITEM,
  REFERENCE_TO,
  METHOD_DEREF,
  OVERSAMPLE,
  BIT_VALUES,
  PROP_ITEM,
  TYPE_GUID,
  PERSISTENT,
  COPY_MASK,
  TCOM_INTERFACE_PTR,
  METHOD_INFOS,
  ATTRIBUTES,
  ENUM_INFOS,
  ALIGNED,
  STATIC,
  SOFTWARE_PROTECTION_LEVELS,
  IGNORE_PERSIST,
  ANY_SIZE_ARRAY,
  PERSISTENT_DATATYPE,
  INIT_ON_RESET,
  PLC_POINTER_TYPE,
  REFACTOR_INFO,
  HIDE_SUB_ITEMS,
  INCOMPLETE,
  CONTAINS_ONLINE_CHANGE_PTR_REF,
  VARIANT,
  EXTENDED_ENUM_INFOS,
  EXTENDED_FLAGS,
}

pub record TypeBits : Type 0 where
  pub data_type : DATA_TYPE.0 ≡ 0x00000001
  pub data_item : DATA_ITEM.0 ≡ 0x00000002
  pub reference_to : REFERENCE_TO.0 ≡ 0x00000004
  pub method_deref : METHOD_DEREF.0 ≡ 0x00000008
  pub oversample : OVERSAMPLE.0 ≡ 0x00000010
  pub bit_values : BIT_VALUES.0 ≡ 0x00000020
  pub prop_item : PROP_ITEM.0 ≡ 0x00000040
  pub type_guid : TYPE_GUID.0 ≡ 0x00000080
  pub persistent : PERSISTENT.0 ≡ 0x00000100
  pub copy_mask : COPY_MASK.0 ≡ 0x00000200
  pub tcom_interface_ptr : TCOM_INTERFACE_PTR.0 ≡ 0x00000400
  pub method_infos : METHOD_INFOS.0 ≡ 0x00000800
  pub attributes : ATTRIBUTES.0 ≡ 0x00001000
  pub enum_infos : ENUM_INFOS.0 ≡ 0x00002000
  pub aligned : ALIGNED.0 ≡ 0x00010000
  pub static : STATIC.0 ≡ 0x00020000
  pub software_protection_levels : SOFTWARE_PROTECTION_LEVELS.0 ≡ 0x00040000
  pub ignore_persist : IGNORE_PERSIST.0 ≡ 0x00080000
  pub any_size_array : ANY_SIZE_ARRAY.0 ≡ 0x00100000
  pub persistent_datatype : PERSISTENT_DATATYPE.0 ≡ 0x00200000
  pub init_on_reset : INIT_ON_RESET.0 ≡ 0x00400000
  pub plc_pointer_type : PLC_POINTER_TYPE.0 ≡ 0x00800000
  pub refactor_info : REFACTOR_INFO.0 ≡ 0x01000000
  pub hide_sub_items : HIDE_SUB_ITEMS.0 ≡ 0x02000000
  pub incomplete : INCOMPLETE.0 ≡ 0x04000000
  pub contains_online_change_ptr_ref : CONTAINS_ONLINE_CHANGE_PTR_REF.0 ≡ 0x08000000
  pub variant : VARIANT.0 ≡ 0x10000000
  pub extended_enum_infos : EXTENDED_ENUM_INFOS.0 ≡ 0x20000000
  pub extended_flags : EXTENDED_FLAGS.0 ≡ 0x80000000

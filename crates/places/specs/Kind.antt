-- docs/FORMAT.md, "Symbol entries", "Field entries" and "Data type entries": the attributes of an accepted entry, and a symbol's refactor records, reach to its end.
use Rattle.std.proofs.Common.{ℕ, ◌≡◌, List, Ok, Bor}
use Rattle.part.specs.End.{IsEnd}
use Rattle.refusal.specs.declared.Mode.{Mode}
use Rattle.symbol.specs.declared.AdsSymbolInfo.{AdsSymbolInfo}
use Rattle.symbol.specs.Symbol.{symbol_of}
use Rattle.symbol.proofs.Lies.{symbols_inside}
use Rattle.field.specs.declared.AdsFieldInfo.{AdsFieldInfo}
use Rattle.field.specs.Field.{field_of}
use Rattle.field.proofs.Within.{list_place}
use Rattle.data_type.specs.declared.AdsDataTypeInfo.{AdsDataTypeInfo}
use Rattle.data_type.specs.DataType.{levels, type_of}
use Rattle.data_type.proofs.AsField.{entry_as_field}

module _ (mode : Mode) (e : Bor (List ℕ)) where
  pub symbol_attributes_end : (r : AdsSymbolInfo) → symbol_of mode e ≡ Ok r → IsEnd e r.attributes.bytes
  symbol_attributes_end r h = (symbols_inside mode e r h).attribute_bytes

  pub refactor_infos_end : (r : AdsSymbolInfo) → symbol_of mode e ≡ Ok r → IsEnd e r.refactor_infos.bytes
  refactor_infos_end r h = (symbols_inside mode e r h).refactor_bytes

  pub field_attributes_end : (r : AdsFieldInfo) → field_of mode e ≡ Ok r → IsEnd e r.attributes.bytes
  field_attributes_end r h = list_place mode e r h

  pub type_attributes_end : (r : AdsDataTypeInfo) → type_of mode e ≡ Ok r → IsEnd e r.field.attributes.bytes
  type_attributes_end r h = field_attributes_end r.field (entry_as_field mode levels e r h)

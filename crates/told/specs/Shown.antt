-- docs/FORMAT.md, "Symbol entries", "Field entries" and "Data type entries": a record whose places fit its length, as those of an accepted entry do.
use Rattle.std.proofs.Common.{ℕ, ◌+◌, ◌≤◌, ◌≡◌, List, length, Ok, arith, Bor}
use Rattle.refusal.specs.declared.Mode.{Mode}
use Rattle.symbol.specs.declared.AdsSymbolInfo.{AdsSymbolInfo}
use Rattle.symbol.specs.Symbol.{symbol_of}
use Rattle.symbol.specs.Kind.{long}
use Rattle.symbol.proofs.Laws.{symbols_whole}
use Rattle.field.specs.declared.AdsFieldInfo.{AdsFieldInfo}
use Rattle.field.specs.Field.{field_of}
use Rattle.field.proofs.Within.{fields_within}
use Rattle.data_type.specs.declared.AdsDataTypeInfo.{AdsDataTypeInfo}
use Rattle.data_type.specs.DataType.{levels, type_of}
use Rattle.data_type.proofs.AsField.{entry_as_field}
use Rattle.places.specs.Kind.{field_attributes_end}

pub record IsShown (r : AdsSymbolInfo) : Type 0 where
  pub strings : 33 + length r.name.now + length r.type_name.now + length r.comment.now ≤ r.length
  pub attributes : length r.attributes.bytes.now ≤ r.length
  pub refactor_infos : length r.refactor_infos.bytes.now ≤ r.length

pub record IsFieldShown (r : AdsFieldInfo) : Type 0 where
  pub strings : 45 + length r.name.now + length r.type_name.now + length r.comment.now ≤ r.length
  pub attributes : length r.attributes.bytes.now ≤ r.length

abbrev pub IsTypeShown : AdsDataTypeInfo → Type 0
IsTypeShown r = IsFieldShown r.field

module _ (mode : Mode) (e : Bor (List ℕ)) where
  pub symbols_shown : (r : AdsSymbolInfo) → symbol_of mode e ≡ Ok r → IsShown r
  symbols_shown r h =
      let w = symbols_whole mode e r h in
      let l : r.length ≡ length e.now = long mode e r h in
      record { strings = omega (arith, w.within.strings); attributes = omega (arith, w.within.attributes); refactor_infos = omega (arith, w.within.refactor_infos) }

  pub fields_shown : (r : AdsFieldInfo) → field_of mode e ≡ Ok r → IsFieldShown r
  fields_shown r h =
      let w = fields_within mode e r h in
      record { strings = omega (arith, w.room, w.long); attributes = omega (arith, (field_attributes_end mode e r h).within, w.long) }

  pub types_shown : (r : AdsDataTypeInfo) → type_of mode e ≡ Ok r → IsTypeShown r
  types_shown r h = fields_shown r.field (entry_as_field mode levels e r h)

-- What the slots of a symbol and of a field say of the bytes of its entry.
use Rattle.std.proofs.Common.{ℕ, ◌-◌, ◌≡◌, refl, sym, ap, ◌∙◌, List, [], ◌++◌, length, Ok, Bor}
use Rattle.std.specs.Prelude.{Option, Some, None, is_some, get_or}
use Rattle.part.specs.Slice.{after}
use Rattle.refusal.specs.declared.Mode.{Mode}
use Rattle.flags.specs.declared.symbol_flags.AdsSymbol2Flags.{AdsSymbol2Flags}
use Rattle.symbol.specs.Symbol.{extended_word}
use Rattle.symbol.proofs.Lies.{symbols_inside}
use Rattle.field.specs.declared.AdsFieldInfo.{AdsFieldInfo}
use Rattle.field.specs.Field.{field_of}
use Rattle.field.proofs.Within.{fields_within}
use Rattle.told.specs.Slots.{bit, guid_bytes, symbol_slots, field_slots}
use Rattle.told.specs.Meaning.{GuidTold, ExtendedTold, SymbolsTold, FieldTold, FieldsTold}

guid_told : (g : Option (List ℕ)) → GuidTold g (bit (is_some g)) (guid_bytes g)
guid_told None = (refl, refl)
guid_told (Some bytes) = (refl, refl)

extended_told : (x : Option AdsSymbol2Flags) → ExtendedTold x (bit (is_some x)) (extended_word x)
extended_told None = (refl, refl)
extended_told (Some flags) = (refl, refl)

pub symbols_told : SymbolsTold
unfolding symbol_slots
symbols_told mode e r h =
    let i = symbols_inside mode e r h in
    record {
      whole = i.long;
      index_group = i.index_group;
      index_offset = i.index_offset;
      size = i.size;
      data_type_id = i.data_type_id;
      flags = i.flags;
      high = i.high;
      name = sym i.name.is;
      type_name = sym i.type_name.is;
      comment = sym i.comment.is;
      name_len = i.name_length;
      type_name_len = i.type_name_length;
      comment_len = i.comment_length;
      guid_told = guid_told r.guid;
      attributes = ap (λ (l : ℕ). after e (l - length r.attributes.bytes.now)) i.long ∙ sym i.attribute_bytes.is;
      attribute_count = refl;
      extended_flags = extended_told r.extended_flags;
      refactors = ap (λ (l : ℕ). after e (l - length r.refactor_infos.bytes.now)) i.long ∙ sym i.refactor_bytes.is;
      refactor_count = refl;
      unread = sym i.unread.is;
    }

-- whatever slots follow those of a field
pub field_told : (more : List ℕ) (mode : Mode) (e : Bor (List ℕ)) (r : AdsFieldInfo) → field_of mode e ≡ Ok r → FieldTold e r (λ k. get_or (field_slots r ++ more) k 0) (guid_bytes r.guid)
unfolding field_slots
field_told more mode e r h =
    let w = fields_within mode e r h in
    record {
      whole = w.long;
      version = w.version;
      hash_value = w.hash_value;
      type_hash_value = w.type_hash_value;
      size = w.size;
      offset = w.offset;
      type_id = w.type_id;
      flags = w.flags;
      name = sym w.name;
      type_name = sym w.type_name;
      comment = sym w.comment;
      name_len = w.name_length;
      type_name_len = w.type_name_length;
      comment_len = w.comment_length;
      guid_told = guid_told r.guid;
      attributes = ap (λ (l : ℕ). after e (l - length r.attributes.bytes.now)) w.long ∙ sym w.attribute_bytes.is;
      attribute_count = refl;
    }

pub fields_told : FieldsTold
unfolding field_slots
fields_told mode e r h = field_told [] mode e r h

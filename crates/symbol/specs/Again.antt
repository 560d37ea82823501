-- docs/FORMAT.md, "Plain form": a symbol to write of one that was read.
use Rattle.std.specs.Prelude.{ℕ, ◌-◌, ◌≡◌, List, Option, Some, None, Ok, is_some, length, if◌then◌else◌}
use Rattle.std.specs.Borrow.{Bor}
use Rattle.part.specs.Slice.{part}
use Rattle.part.specs.End.{rest_at}
use Rattle.refusal.specs.declared.Mode.{Mode}
use Rattle.flags.specs.declared.index_group.IndexGroup.{IndexGroup}
use Rattle.flags.specs.declared.index_offset.IndexOffset.{IndexOffset}
use Rattle.flags.specs.declared.symbol_flags.AdsSymbolFlags.{AdsSymbolFlags}
use Rattle.flags.specs.declared.symbol_flags.AdsSymbol2Flags.{AdsSymbol2Flags}
use Rattle.symbol.specs.declared.AdsSymbolInfo.{AdsSymbolInfo}
use Rattle.symbol.specs.declared.writer.NewSymbol.{NewSymbol}
use Rattle.symbol.specs.Symbol.{extended_word, symbol_of}
use Rattle.symbol.specs.Inside.{behind_attributes}
use Rattle.symbol.specs.Told.{told_of}

-- the bytes between where the attributes begin and the extended flags, where these are there, or the chain
abbrev pub attributes_size : AdsSymbolInfo → ℕ
attributes_size r = length r.attributes.bytes.now - length r.refactor_infos.bytes.now - (if is_some r.extended_flags then 4 else 0)

-- and those between where the chain begins and what is unread
abbrev pub refactors_size : AdsSymbolInfo → ℕ
refactors_size r = length r.refactor_infos.bytes.now - length r.unread.now

-- what is absent is not given, and extended flags that are absent are 0
unfoldable pub new_of : AdsSymbolInfo → NewSymbol
new_of r =
    record {
      index_group = r.index_group;
      index_offset = r.index_offset;
      size = r.size;
      data_type_id = r.data_type_id;
      flags = r.flags;
      high = r.high;
      name = r.name;
      type_name = r.type_name;
      comment = r.comment;
      guid = r.guid;
      attributes = record { bytes = part r.attributes.bytes 0 (attributes_size r); count = r.attributes.count };
      extended_flags = record { 0 = extended_word r.extended_flags };
      refactor_infos = record { bytes = part r.refactor_infos.bytes 0 (refactors_size r); count = r.refactor_infos.count };
    }

-- the blocks are the entry's bytes from where the first attribute, or record, begins to behind the last that is shown
pub record IsCut (e : Bor (List ℕ)) (r : AdsSymbolInfo) : Type 0 where
  pub attributes : (new_of r).attributes.bytes ≡ part e (rest_at e r.attributes.bytes) (behind_attributes e r - rest_at e r.attributes.bytes)
  pub refactor_infos : (new_of r).refactor_infos.bytes ≡ part e (rest_at e r.refactor_infos.bytes) (rest_at e r.unread - rest_at e r.refactor_infos.bytes)

abbrev pub SymbolsCut : Type 0
SymbolsCut = (mode : Mode) (e : Bor (List ℕ)) (r : AdsSymbolInfo) → symbol_of mode e ≡ Ok r → IsCut e r

-- and its other fields are those of the record, its flags and its counts the whole of them, whatever of it was flagged and absent
pub record IsAgain (r : AdsSymbolInfo) : Type 0 where
  pub index_group : (new_of r).index_group ≡ (told_of r).index_group
  pub index_offset : (new_of r).index_offset ≡ (told_of r).index_offset
  pub size : (new_of r).size ≡ (told_of r).size
  pub data_type_id : (new_of r).data_type_id ≡ (told_of r).data_type_id
  pub flags : (new_of r).flags ≡ (told_of r).flags
  pub high : (new_of r).high ≡ (told_of r).high
  pub name : (new_of r).name ≡ r.name
  pub type_name : (new_of r).type_name ≡ r.type_name
  pub comment : (new_of r).comment ≡ r.comment
  pub guid : (new_of r).guid ≡ (told_of r).guid
  pub attributes : (new_of r).attributes.count ≡ length (told_of r).attributes
  pub word_there : (word : AdsSymbol2Flags) → (told_of r).extended_flags ≡ Some word → (new_of r).extended_flags ≡ word
  pub word_absent : (told_of r).extended_flags ≡ None → (new_of r).extended_flags.0 ≡ 0
  pub refactor_infos : (new_of r).refactor_infos.count ≡ length (told_of r).refactor_infos

abbrev pub SymbolsAgain : Type 0
SymbolsAgain = (mode : Mode) (e : Bor (List ℕ)) (r : AdsSymbolInfo) → symbol_of mode e ≡ Ok r → IsAgain r

-- what a symbol to write holds, wherever its strings and blocks lie
pub record Given : Type 0 where
  pub index_group : IndexGroup
  pub index_offset : IndexOffset
  pub size : ℕ
  pub data_type_id : ℕ
  pub flags : AdsSymbolFlags
  pub high : ℕ
  pub name : List ℕ
  pub type_name : List ℕ
  pub comment : List ℕ
  pub guid : Option (List ℕ)
  pub attributes : List ℕ
  pub attribute_count : ℕ
  pub extended_flags : AdsSymbol2Flags
  pub refactor_infos : List ℕ
  pub refactor_count : ℕ

abbrev pub given_of : NewSymbol → Given
given_of n =
    record {
      index_group = n.index_group;
      index_offset = n.index_offset;
      size = n.size;
      data_type_id = n.data_type_id;
      flags = n.flags;
      high = n.high;
      name = n.name.now;
      type_name = n.type_name.now;
      comment = n.comment.now;
      guid = n.guid;
      attributes = n.attributes.bytes.now;
      attribute_count = n.attributes.count;
      extended_flags = n.extended_flags;
      refactor_infos = n.refactor_infos.bytes.now;
      refactor_count = n.refactor_infos.count;
    }

-- docs/FORMAT.md, "Symbol entries" and "Fit records": what a symbol tells, wherever it lies, and what is meant by one that is written.
use Rattle.std.specs.Prelude.{ℕ, ◌<◌, ◌≡◌, List, Option, Some, None, length, if◌then◌else◌}
use Rattle.std.specs.Borrow.{Bor}
use Rattle.refusal.specs.declared.Mode.{Mode}
use Rattle.walk.specs.Mapped.{map_ok}
use Rattle.flags.specs.declared.index_group.IndexGroup.{IndexGroup}
use Rattle.flags.specs.declared.index_offset.IndexOffset.{IndexOffset}
use Rattle.flags.specs.declared.symbol_flags.AdsSymbolFlags.{AdsSymbolFlags}
use Rattle.flags.specs.declared.symbol_flags.AdsSymbol2Flags.{AdsSymbol2Flags}
use Rattle.attribute.specs.Attribute as attribute
use Rattle.attribute.specs.Told as attributes
use Rattle.refactor.specs.Refactor as refactor
use Rattle.refactor.specs.Told as refactors
use Rattle.symbol.specs.declared.AdsSymbolInfo.{AdsSymbolInfo}
use Rattle.symbol.specs.declared.writer.NewSymbol.{NewSymbol}
use Rattle.symbol.specs.Symbol.{symbol_of}
use Rattle.le.specs.Le.{has}

pub record Told : Type 0 where
  pub index_group : IndexGroup
  pub index_offset : IndexOffset
  pub size : ℕ
  pub data_type_id : ℕ
  pub flags : AdsSymbolFlags
  pub high : ℕ
  pub name : List ℕ
  pub type_name : List ℕ
  pub comment : List ℕ
  pub guid : Option (List ℕ)
  pub attributes : List attributes.Told
  pub extended_flags : Option AdsSymbol2Flags
  pub refactor_infos : List refactors.Told
  pub unread : List ℕ

abbrev pub told_of : AdsSymbolInfo → Told
told_of r =
    record {
      index_group = r.index_group;
      index_offset = r.index_offset;
      size = r.size;
      data_type_id = r.data_type_id;
      flags = r.flags;
      high = r.high;
      name = r.name.now;
      type_name = r.type_name.now;
      comment = r.comment.now;
      guid = r.guid;
      attributes = attributes.told (attribute.listed r.attributes.bytes r.attributes.count);
      extended_flags = r.extended_flags;
      refactor_infos = refactors.told (refactor.listed r.refactor_infos.bytes r.refactor_infos.count);
      unread = r.unread.now;
    }

-- what is meant by a symbol that is written, in an entry that is grown by some bytes: these stay unread, and nothing else
abbrev pub meant : NewSymbol → List ℕ → Told
meant n extra =
    record {
      index_group = n.index_group;
      index_offset = n.index_offset;
      size = n.size;
      data_type_id = n.data_type_id;
      flags = n.flags;
      high = n.high;
      name = n.name.now;
      type_name = n.type_name.now;
      comment = n.comment.now;
      guid = n.guid;
      attributes = attributes.told (attribute.listed n.attributes.bytes n.attributes.count);
      extended_flags = if has n.flags.0 0x8000 then Some n.extended_flags else None;
      refactor_infos = refactors.told (refactor.listed n.refactor_infos.bytes n.refactor_infos.count);
      unread = extra;
    }

abbrev pub IsSixteen : Option (List ℕ) → Type 0
IsSixteen (Some guid) = length guid ≡ 16
IsSixteen None = Unit

-- what the types of the writer's fields say: each number fits its width, and a GUID has 16 bytes
pub record IsTyped (n : NewSymbol) : Type 0 where
  pub index_group : n.index_group.0 < 4294967296
  pub index_offset : n.index_offset.0 < 4294967296
  pub size : n.size < 4294967296
  pub data_type_id : n.data_type_id < 4294967296
  pub flags : n.flags.0 < 65536
  pub high : n.high < 65536
  pub extended_flags : n.extended_flags.0 < 4294967296
  pub guid : IsSixteen n.guid

-- what a symbol tells does not depend on where it lies
abbrev pub SymbolsAnywhere : Type 0
SymbolsAnywhere = (mode : Mode) (e f : Bor (List ℕ)) → e.now ≡ f.now → map_ok told_of (symbol_of mode e) ≡ map_ok told_of (symbol_of mode f)

-- docs/FORMAT.md, "Writing": by which refusal a symbol is refused that is not written.
use Rattle.std.specs.Prelude.{ℕ, ◌+◌, ◌<◌, ◌≤◌, ◌≡◌, ◌↔◌, false, is_some, Ok, Err, ltb, length, if◌then◌else◌}
use Rattle.le.specs.Le.{has}
use Rattle.refusal.specs.Refusal.{limit}
use Rattle.refusal.specs.declared.Refusal.{Refusal}
use Rattle.refusal.specs.declared.Refusal.TheVariants.{TooLong, SectionsDisagree, TooLarge}
use Rattle.attribute.specs.Block as attribute
use Rattle.refactor.specs.Block as refactor
use Rattle.writing.specs.Checks.{IsShort}
use Rattle.symbol.specs.declared.writer.NewSymbol.{NewSymbol}
use Rattle.symbol.specs.Told.{IsTyped}
use Rattle.symbol.specs.Writing.{symbol_written}

-- header, three strings with an end byte each, and the sections: a GUID, a count and the attributes, extended flags, the chain
abbrev pub size_of : NewSymbol → ℕ
size_of n =
    33 + length n.name.now + length n.type_name.now + length n.comment.now
    + (if has n.flags.0 0x0008 then 16 else 0)
    + (if has n.flags.0 0x1000 then length n.attributes.bytes.now + 2 else 0)
    + (if has n.flags.0 0x8000 then 4 else 0)
    + length n.refactor_infos.bytes.now

module _ (n : NewSymbol) where
  -- strings and a count that 2 bytes hold, and blocks that pass
  pub record HasGoodParts : Type 0 where
    pub short : IsShort n.name.now n.type_name.now n.comment.now
    pub few : n.attributes.count ≤ 65535
    pub attributes : attribute.block_checked n.attributes.count n.attributes.bytes ≡ Ok tt
    pub refactor_infos : refactor.block_checked n.refactor_infos.count n.refactor_infos.bytes ≡ Ok tt

  -- each section agrees with its flag
  abbrev pub GuidAgrees : Type 0
  GuidAgrees = is_some n.guid ≡ has n.flags.0 0x0008

  abbrev pub AttributesAgree : Type 0
  AttributesAgree = has n.flags.0 0x1000 ≡ false → length n.attributes.bytes.now ≡ 0

  abbrev pub ExtendedAgree : Type 0
  ExtendedAgree = has n.flags.0 0x8000 ≡ false → n.extended_flags.0 ≡ 0

  abbrev pub ChainAgrees : Type 0
  ChainAgrees = ltb 0 n.refactor_infos.count ≡ has n.extended_flags.0 0x0004

  -- why one is refused: the first that holds, in this order
  pub data IsBarred : Refusal → Type 0 where
    name : 65535 < length n.name.now → IsBarred (TooLong 65535 (length n.name.now))
    type_name : length n.name.now ≤ 65535 → 65535 < length n.type_name.now → IsBarred (TooLong 65535 (length n.type_name.now))
    comment : length n.name.now ≤ 65535 → length n.type_name.now ≤ 65535 → 65535 < length n.comment.now → IsBarred (TooLong 65535 (length n.comment.now))
    count : IsShort n.name.now n.type_name.now n.comment.now → 65535 < n.attributes.count → IsBarred (TooLong 65535 n.attributes.count)
    attributes : {why : Refusal} → IsShort n.name.now n.type_name.now n.comment.now → n.attributes.count ≤ 65535
        → attribute.block_checked n.attributes.count n.attributes.bytes ≡ Err why → IsBarred why
    refactor_infos : {why : Refusal} → IsShort n.name.now n.type_name.now n.comment.now → n.attributes.count ≤ 65535
        → attribute.block_checked n.attributes.count n.attributes.bytes ≡ Ok tt → refactor.block_checked n.refactor_infos.count n.refactor_infos.bytes ≡ Err why → IsBarred why
    guid : HasGoodParts → (GuidAgrees → ⊥) → IsBarred (SectionsDisagree 1)
    unflagged_attributes : HasGoodParts → GuidAgrees → (AttributesAgree → ⊥) → IsBarred (SectionsDisagree 2)
    unflagged_word : HasGoodParts → GuidAgrees → AttributesAgree → (ExtendedAgree → ⊥) → IsBarred (SectionsDisagree 3)
    chain : HasGoodParts → GuidAgrees → AttributesAgree → ExtendedAgree → (ChainAgrees → ⊥) → IsBarred (SectionsDisagree 4)
    size : HasGoodParts → GuidAgrees → AttributesAgree → ExtendedAgree → ChainAgrees → limit < size_of n → IsBarred (TooLarge (size_of n))

-- by this refusal exactly where this is the first that holds
abbrev pub SymbolsBarred : Type 0
SymbolsBarred = (n : NewSymbol) (why : Refusal) → IsTyped n → ((symbol_written n ≡ Err why) ↔ IsBarred n why)

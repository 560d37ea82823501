-- docs/FORMAT.md, "Symbol entries", "Field entries", "Attributes" and "Refactor records": what the slots of a record say of the bytes that it was read from,
-- slot by slot, as bindings/c/vindaskot.h numbers them. A string, and what a list is read from, are the part of the bytes at the place told.
use Rattle.std.specs.Prelude.{ℕ, ◌-◌, ◌<◌, ◌≡◌, if◌then◌else◌, List, Option, Some, None, Ok, Err, Contains, get_or, length, replicate}
use Rattle.std.specs.Borrow.{Bor}
use Rattle.le.specs.Le.{le2, le4}
use Rattle.part.specs.Slice.{part, after}
use Rattle.refusal.specs.Refusal.{numbered, figures_of}
use Rattle.refusal.specs.declared.Mode.{Mode}
use Rattle.refusal.specs.declared.Refusal.{Refusal}
use Rattle.attribute.specs.declared.AdsAttribute.{AdsAttribute}
use Rattle.attribute.specs.Attribute as attribute
use Rattle.refactor.specs.declared.AdsRefactorInfo.{AdsRefactorInfo}
use Rattle.refactor.specs.declared.RefactorInfos.{RefactorInfos}
use Rattle.refactor.specs.Refactor as refactor
use Rattle.flags.specs.declared.symbol_flags.AdsSymbol2Flags.{AdsSymbol2Flags}
use Rattle.symbol.specs.declared.AdsSymbolInfo.{AdsSymbolInfo}
use Rattle.symbol.specs.Symbol.{symbol_of}
use Rattle.field.specs.declared.AdsFieldInfo.{AdsFieldInfo}
use Rattle.field.specs.Field.{field_of}
use Rattle.places.specs.Alone.{chain_read}
use Rattle.places.specs.Places.{attribute_places, refactor_places}
use Rattle.told.specs.Told.{numbers_told}
use Rattle.told.specs.Slots.{symbol_slots, symbol_guid, field_slots, field_guid, attribute_slots, refactor_slots}

-- 0 and 16 zeros where there is no GUID, else 1 and its bytes
abbrev pub GuidTold : Option (List ℕ) → ℕ → List ℕ → Type 0
GuidTold None has bytes = (has ≡ 0) × (bytes ≡ replicate 16 0)
GuidTold (Some guid) has bytes = (has ≡ 1) × (bytes ≡ guid)

-- 0 and 0 where there are no extended flags, else 1 and their word
abbrev pub ExtendedTold : Option AdsSymbol2Flags → ℕ → ℕ → Type 0
ExtendedTold None has word = (has ≡ 0) × (word ≡ 0)
ExtendedTold (Some flags) has word = (has ≡ 1) × (word ≡ flags.0)

-- a symbol, of its entry's own bytes
pub record SymbolTold (e : Bor (List ℕ)) (r : AdsSymbolInfo) (slot : ℕ → ℕ) (guid : List ℕ) : Type 0 where
  pub whole : slot 0 ≡ length e.now
  pub index_group : slot 1 ≡ le4 e.now 4
  pub index_offset : slot 2 ≡ le4 e.now 8
  pub size : slot 3 ≡ le4 e.now 12
  pub data_type_id : slot 4 ≡ le4 e.now 16
  pub flags : slot 5 ≡ le2 e.now 20
  pub high : slot 6 ≡ le2 e.now 22
  pub name : part e (slot 7) (slot 8) ≡ r.name
  pub type_name : part e (slot 9) (slot 10) ≡ r.type_name
  pub comment : part e (slot 11) (slot 12) ≡ r.comment
  pub name_len : slot 8 ≡ le2 e.now 24
  pub type_name_len : slot 10 ≡ le2 e.now 26
  pub comment_len : slot 12 ≡ le2 e.now 28
  pub guid_told : GuidTold r.guid (slot 13) guid
  pub attributes : after e (slot 14) ≡ r.attributes.bytes
  pub attribute_count : slot 15 ≡ r.attributes.count
  pub extended_flags : ExtendedTold r.extended_flags (slot 16) (slot 17)
  pub refactors : after e (slot 18) ≡ r.refactor_infos.bytes
  pub refactor_count : slot 19 ≡ r.refactor_infos.count
  pub unread : after e (length e.now - slot 20) ≡ r.unread

abbrev pub SymbolsTold : Type 0
SymbolsTold = (mode : Mode) (e : Bor (List ℕ)) (r : AdsSymbolInfo) → symbol_of mode e ≡ Ok r → SymbolTold e r (λ k. get_or (symbol_slots r) k 0) (symbol_guid r)

-- a field likewise
pub record FieldTold (e : Bor (List ℕ)) (r : AdsFieldInfo) (slot : ℕ → ℕ) (guid : List ℕ) : Type 0 where
  pub whole : slot 0 ≡ length e.now
  pub version : slot 1 ≡ le4 e.now 4
  pub hash_value : slot 2 ≡ le4 e.now 8
  pub type_hash_value : slot 3 ≡ le4 e.now 12
  pub size : slot 4 ≡ le4 e.now 16
  pub offset : slot 5 ≡ le4 e.now 20
  pub type_id : slot 6 ≡ le4 e.now 24
  pub flags : slot 7 ≡ le4 e.now 28
  pub name : part e (slot 8) (slot 9) ≡ r.name
  pub type_name : part e (slot 10) (slot 11) ≡ r.type_name
  pub comment : part e (slot 12) (slot 13) ≡ r.comment
  pub name_len : slot 9 ≡ le2 e.now 32
  pub type_name_len : slot 11 ≡ le2 e.now 34
  pub comment_len : slot 13 ≡ le2 e.now 36
  pub guid_told : GuidTold r.guid (slot 14) guid
  pub attributes : after e (slot 15) ≡ r.attributes.bytes
  pub attribute_count : slot 16 ≡ r.attributes.count

abbrev pub FieldsTold : Type 0
FieldsTold = (mode : Mode) (e : Bor (List ℕ)) (r : AdsFieldInfo) → field_of mode e ≡ Ok r → FieldTold e r (λ k. get_or (field_slots r) k 0) (field_guid r)

-- an attribute: it is the one that stands 2 bytes before its name, and what follows it goes on at the last place
pub record AttributeTold (e : Bor (List ℕ)) (a : AdsAttribute) (slot : ℕ → ℕ) : Type 0 where
  pub name : part e (slot 0) (slot 1) ≡ a.name
  pub value : part e (slot 2) (slot 3) ≡ a.value
  pub read : attribute.first_of (after e (slot 0 - 2)) ≡ Ok (a, after e (slot 4))

-- each of a list that is read from some place on
abbrev pub AttributesTold : Type 0
AttributesTold =
    (e : Bor (List ℕ)) (at count : ℕ) (a : AdsAttribute) → Contains (attribute.listed (after e at) count) a
    → AttributeTold e a (λ k. get_or (attribute_slots (attribute_places e a)) k 0)

-- a refactor record: 6 bytes before its name
pub record RefactorTold (e : Bor (List ℕ)) (r : AdsRefactorInfo) (slot : ℕ → ℕ) : Type 0 where
  pub count : slot 0 ≡ r.refactor_count
  pub followed : slot 1 ≡ (if r.next_refactor_info then 1 else 0)
  pub name : part e (slot 2) (slot 3) ≡ r.name
  pub read : refactor.first_of (after e (slot 2 - 6)) ≡ Ok (r, after e (slot 4))

abbrev pub RefactorsTold : Type 0
RefactorsTold =
    (e : Bor (List ℕ)) (at count : ℕ) (r : AdsRefactorInfo) → Contains (refactor.listed (after e at) count) r
    → RefactorTold e r (λ k. get_or (refactor_slots (refactor_places e r)) k 0)

-- a chain that stands alone: how many records it has, and the place from which on what is left after it lies
pub record ChainTold (mode : Mode) (s : Bor (List ℕ)) (p : RefactorInfos × Bor (List ℕ)) : Type 0 where
  pub place : ℕ
  pub rest : after s place ≡ p.1
  pub told : numbers_told (chain_read mode s) ≡ numbered 0 p.0.count place

-- and a refusal as it is
pub record ChainsTold : Type 0 where
  pub accepted : (mode : Mode) (s : Bor (List ℕ)) (p : RefactorInfos × Bor (List ℕ)) → refactor.chain_alone mode s ≡ Ok p → ChainTold mode s p
  pub refused : (mode : Mode) (s : Bor (List ℕ)) (why : Refusal) → refactor.chain_alone mode s ≡ Err why → numbers_told (chain_read mode s) ≡ figures_of why

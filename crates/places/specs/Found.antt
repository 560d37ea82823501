-- docs/FORMAT.md, "Direct reading", "Attributes", "Refactor records" and "Refusals": which record is found of those that a number, or a name, asks for.
use Rattle.std.specs.Prelude.{ℕ, ◌≡◌, List, Result, Ok}
use Rattle.std.specs.Borrow.{Bor}
use Rattle.refusal.specs.ByNumber.{IsNumbered}
use Rattle.refusal.specs.declared.Mode.{Mode}
use Rattle.refusal.specs.declared.Refusal.{Refusal}
use Rattle.attribute.specs.Asked.{FirstNamed}
use Rattle.attribute.specs.Attribute as attribute
use Rattle.attribute.specs.declared.Attributes.{Attributes}
use Rattle.refactor.specs.Refactor as refactor
use Rattle.refactor.specs.declared.RefactorInfos.{RefactorInfos}
use Rattle.walk.specs.Mapped.{map_ok}
use Rattle.walk.specs.Step.{parse_of}
use Rattle.symbol.specs.declared.AdsSymbolInfo.{AdsSymbolInfo}
use Rattle.symbol.specs.Symbol.{symbol_of}
use Rattle.field.specs.declared.AdsFieldInfo.{AdsFieldInfo}
use Rattle.field.specs.Field.{field_of}
use Rattle.data_type.specs.declared.AdsDataTypeInfo.{AdsDataTypeInfo}
use Rattle.data_type.specs.DataType.{type_of}
use Rattle.places.specs.declared.AttributePlaces.{AttributePlaces}
use Rattle.places.specs.declared.RefactorPlaces.{RefactorPlaces}
use Rattle.places.specs.Alone.{chain_record}
use Rattle.places.specs.Entry.{symbol_attribute, symbol_attribute_named, symbol_refactor_info, field_attribute, field_attribute_named, type_attribute, type_attribute_named}
use Rattle.places.specs.Places.{attribute_places, refactor_places}

-- an answer in places is that of a record that means this; a refusal is the same
pub record IsPlaced {A B : Type 0} (places : A → B) (Means : Result A Refusal → Type 0) (answer : Result B Refusal) : Type 0 where
  pub found : Result A Refusal
  pub means : Means found
  pub placed : answer ≡ map_ok places found

-- of some attributes the one before which so many stand, or 14; and the first that has the name, or 13
pub record AttributesFound (s : Bor (List ℕ)) (all : Attributes) (numbered : ℕ → Result AttributePlaces Refusal) (named : List ℕ → Result AttributePlaces Refusal) : Type 0 where
  pub by_number : (number : ℕ) → IsPlaced (attribute_places s) (IsNumbered (attribute.listed all.bytes all.count) number) (numbered number)
  pub by_name : (name : List ℕ) → IsPlaced (attribute_places s) (FirstNamed (attribute.listed all.bytes all.count) name) (named name)

-- of some refactor records the one before which so many stand, or 14
abbrev pub RefactorsFound : Bor (List ℕ) → RefactorInfos → (ℕ → Result RefactorPlaces Refusal) → Type 0
RefactorsFound s all answer = (number : ℕ) → IsPlaced (refactor_places s) (IsNumbered (refactor.listed all.bytes all.count) number) (answer number)

-- of an accepted entry, and of an accepted chain
pub record AllFound : Type 0 where
  pub symbol : (mode : Mode) (s : Bor (List ℕ)) (r : AdsSymbolInfo) → parse_of 30 (symbol_of mode) s ≡ Ok r → AttributesFound s r.attributes (symbol_attribute mode s) (symbol_attribute_named mode s)
  pub refactor_infos : (mode : Mode) (s : Bor (List ℕ)) (r : AdsSymbolInfo) → parse_of 30 (symbol_of mode) s ≡ Ok r → RefactorsFound s r.refactor_infos (symbol_refactor_info mode s)
  pub field : (mode : Mode) (s : Bor (List ℕ)) (r : AdsFieldInfo) → parse_of 42 (field_of mode) s ≡ Ok r → AttributesFound s r.attributes (field_attribute mode s) (field_attribute_named mode s)
  pub data_type : (mode : Mode) (s : Bor (List ℕ)) (r : AdsDataTypeInfo) → parse_of 42 (type_of mode) s ≡ Ok r → AttributesFound s r.field.attributes (type_attribute mode s) (type_attribute_named mode s)
  pub chain : (mode : Mode) (s : Bor (List ℕ)) (p : RefactorInfos × Bor (List ℕ)) → refactor.chain_alone mode s ≡ Ok p → RefactorsFound s p.0 (chain_record mode s)

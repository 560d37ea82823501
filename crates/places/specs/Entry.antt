-- docs/FORMAT.md, "Direct reading": what can be asked of the entry at the start of some bytes: an attribute by number and by name, whatever its kind, and of a
-- symbol a refactor record by number. The reading refusals, then 14, or 13 of a name.
use Rattle.std.specs.Prelude.{ℕ, List, Result}
use Rattle.std.specs.Borrow.{Bor}
use Rattle.part.specs.Outcome.{and_then}
use Rattle.refusal.specs.declared.Mode.{Mode}
use Rattle.refusal.specs.declared.Refusal.{Refusal}
use Rattle.attribute.specs.declared.Attributes.{Attributes}
use Rattle.walk.specs.Step.{parse_of}
use Rattle.symbol.specs.Symbol.{symbol_of}
use Rattle.field.specs.Field.{field_of}
use Rattle.data_type.specs.DataType.{type_of}
use Rattle.places.specs.declared.AttributePlaces.{AttributePlaces}
use Rattle.places.specs.declared.RefactorPlaces.{RefactorPlaces}
use Rattle.places.specs.Places.{attribute_numbered, attribute_named, refactor_numbered}

module _ {R : Type 0} where
  abbrev pub entry_attribute : ℕ → (Bor (List ℕ) → Result R Refusal) → (R → Attributes) → Bor (List ℕ) → ℕ → Result AttributePlaces Refusal
  entry_attribute header read shown s number = and_then (parse_of header read s) (λ r. attribute_numbered s (shown r) number)

  abbrev pub entry_attribute_named : ℕ → (Bor (List ℕ) → Result R Refusal) → (R → Attributes) → Bor (List ℕ) → List ℕ → Result AttributePlaces Refusal
  entry_attribute_named header read shown s name = and_then (parse_of header read s) (λ r. attribute_named s (shown r) name)

module _ (mode : Mode) (s : Bor (List ℕ)) where
  abbrev pub symbol_attribute : ℕ → Result AttributePlaces Refusal
  symbol_attribute = entry_attribute 30 (symbol_of mode) (λ r. r.attributes) s

  abbrev pub symbol_attribute_named : List ℕ → Result AttributePlaces Refusal
  symbol_attribute_named = entry_attribute_named 30 (symbol_of mode) (λ r. r.attributes) s

  abbrev pub symbol_refactor_info : ℕ → Result RefactorPlaces Refusal
  symbol_refactor_info number = and_then (parse_of 30 (symbol_of mode) s) (λ r. refactor_numbered s r.refactor_infos number)

  abbrev pub field_attribute : ℕ → Result AttributePlaces Refusal
  field_attribute = entry_attribute 42 (field_of mode) (λ r. r.attributes) s

  abbrev pub field_attribute_named : List ℕ → Result AttributePlaces Refusal
  field_attribute_named = entry_attribute_named 42 (field_of mode) (λ r. r.attributes) s

  abbrev pub type_attribute : ℕ → Result AttributePlaces Refusal
  type_attribute = entry_attribute 42 (type_of mode) (λ r. r.field.attributes) s

  abbrev pub type_attribute_named : List ℕ → Result AttributePlaces Refusal
  type_attribute_named = entry_attribute_named 42 (type_of mode) (λ r. r.field.attributes) s

-- docs/FORMAT.md, "Attributes" and "Refactor records": records and chains that stand alone, which other bytes may follow, in a mode.
use Rattle.std.specs.Prelude.{ℕ, List, Result}
use Rattle.std.specs.Borrow.{Bor}
use Rattle.part.specs.Outcome.{and_then}
use Rattle.refusal.specs.declared.Mode.{Mode}
use Rattle.refusal.specs.declared.Refusal.{Refusal}
use Rattle.attribute.specs.Attribute as attribute
use Rattle.refactor.specs.declared.RefactorInfos.{RefactorInfos}
use Rattle.refactor.specs.Refactor as refactor
use Rattle.walk.specs.Mapped.{map_ok}
use Rattle.places.specs.declared.AttributePlaces.{AttributePlaces}
use Rattle.places.specs.declared.RefactorPlaces.{RefactorPlaces}
use Rattle.places.specs.Places.{place_in, attribute_places, refactor_places, refactor_numbered}

abbrev pub attribute_alone : Mode → Bor (List ℕ) → Result AttributePlaces Refusal
attribute_alone mode s = map_ok (attribute_places s) (attribute.alone mode s)

abbrev pub refactor_alone : Mode → Bor (List ℕ) → Result RefactorPlaces Refusal
refactor_alone mode s = map_ok (refactor_places s) (refactor.alone mode s)

-- of a chain how many records it has, and the place after them
abbrev pub chain_places : Bor (List ℕ) → RefactorInfos × Bor (List ℕ) → ℕ × ℕ
chain_places s p = (p.0.count, place_in s p.1)

abbrev pub chain_read : Mode → Bor (List ℕ) → Result (ℕ × ℕ) Refusal
chain_read mode s = map_ok (chain_places s) (refactor.chain_alone mode s)

-- the record with a number: the reading refusals, then 14
abbrev pub chain_record : Mode → Bor (List ℕ) → ℕ → Result RefactorPlaces Refusal
chain_record mode s number = and_then (refactor.chain_alone mode s) (λ p. refactor_numbered s p.0 number)

-- docs/FORMAT.md, "Numbers": where in some bytes a record of them stands: a place and a length for each of its strings, and the place after it.
use Rattle.std.specs.Prelude.{ℕ, ◌+◌, ◌-◌, ◌≤◌, ◌≡◌, List, Result, length}
use Rattle.std.specs.Borrow.{Bor}
use Rattle.part.specs.End.{IsEnd}
use Rattle.refusal.specs.declared.Refusal.{Refusal}
use Rattle.attribute.specs.declared.AdsAttribute.{AdsAttribute}
use Rattle.attribute.specs.declared.Attributes.{Attributes}
use Rattle.attribute.specs.Attribute as attribute
use Rattle.refactor.specs.declared.AdsRefactorInfo.{AdsRefactorInfo}
use Rattle.refactor.specs.declared.RefactorInfos.{RefactorInfos}
use Rattle.refactor.specs.Refactor as refactor
use Rattle.walk.specs.Mapped.{map_ok}
use Rattle.places.specs.declared.AttributePlaces.{AttributePlaces}
use Rattle.places.specs.declared.RefactorPlaces.{RefactorPlaces}

-- how far behind the start of some bytes a part of them begins, in memory
abbrev pub place_in : Bor (List ℕ) → Bor (List ℕ) → ℕ
place_in e s = s.ref_ptr.1 - e.ref_ptr.1

-- an attribute of these bytes, behind which the others begin: behind its two lengths stand its strings, each with its end byte
pub record IsAttributeBefore (e : Bor (List ℕ)) (a : AdsAttribute) (rest : Bor (List ℕ)) : Type 0 where
  pub end : IsEnd e rest
  pub start : e.ref_ptr.1 + 2 ≤ a.name.ref_ptr.1
  pub name : a.name.ref_ptr.1 + length a.name.now + 1 ≡ a.value.ref_ptr.1
  pub value : a.value.ref_ptr.1 + length a.value.now + 1 ≡ rest.ref_ptr.1

-- a refactor record likewise, with 6 bytes before its name
pub record IsRefactorBefore (e : Bor (List ℕ)) (r : AdsRefactorInfo) (rest : Bor (List ℕ)) : Type 0 where
  pub end : IsEnd e rest
  pub start : e.ref_ptr.1 + 6 ≤ r.name.ref_ptr.1
  pub name : r.name.ref_ptr.1 + length r.name.now + 1 ≡ rest.ref_ptr.1

-- an attribute, and a refactor record, of these bytes
abbrev pub attribute_places : Bor (List ℕ) → AdsAttribute → AttributePlaces
attribute_places e a =
    record {
      name = place_in e a.name;
      name_len = length a.name.now;
      value = place_in e a.value;
      value_len = length a.value.now;
      next = place_in e a.value + length a.value.now + 1;
    }

abbrev pub refactor_places : Bor (List ℕ) → AdsRefactorInfo → RefactorPlaces
refactor_places e r =
    record {
      count = r.refactor_count;
      followed = r.next_refactor_info;
      name = place_in e r.name;
      name_len = length r.name.now;
      next = place_in e r.name + length r.name.now + 1;
    }

-- of a list the attribute with a number, counted from 0, and the first with a name
abbrev pub attribute_numbered : Bor (List ℕ) → Attributes → ℕ → Result AttributePlaces Refusal
attribute_numbered e all number =
    map_ok (attribute_places e) (attribute.numbered (attribute.listed all.bytes all.count) all.count number)

abbrev pub attribute_named : Bor (List ℕ) → Attributes → List ℕ → Result AttributePlaces Refusal
attribute_named e all name = map_ok (attribute_places e) (attribute.named (attribute.listed all.bytes all.count) name)

-- of a chain the record with a number
abbrev pub refactor_numbered : Bor (List ℕ) → RefactorInfos → ℕ → Result RefactorPlaces Refusal
refactor_numbered e all number =
    map_ok (refactor_places e) (refactor.numbered (refactor.listed all.bytes all.count) all.count number)

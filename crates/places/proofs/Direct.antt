-- Places that are counted from the start of an entry are those counted from the start of all bytes.
use Rattle.std.proofs.Common.{ℕ, ◌+◌, ◌-◌, ◌≡◌, ap, List, length, Bor, Result}
use native.Mathlib.Nat.{add-zero}
use Rattle.part.specs.Slice.{part}
use Rattle.refusal.specs.declared.Refusal.{Refusal}
use Rattle.attribute.specs.declared.AdsAttribute.{AdsAttribute}
use Rattle.attribute.specs.declared.Attributes.{Attributes}
use Rattle.refactor.specs.declared.AdsRefactorInfo.{AdsRefactorInfo}
use Rattle.refactor.specs.declared.RefactorInfos.{RefactorInfos}
use Rattle.walk.specs.Mapped.{map_ok}
use Rattle.places.specs.declared.AttributePlaces.{AttributePlaces}
use Rattle.places.specs.declared.RefactorPlaces.{RefactorPlaces}
use Rattle.places.specs.Places.{attribute_places, refactor_places, attribute_numbered, attribute_named, refactor_numbered}

abbrev attribute_from : ℕ → AdsAttribute → AttributePlaces
attribute_from from a =
    record {
      name = a.name.ref_ptr.1 - from;
      name_len = length a.name.now;
      value = a.value.ref_ptr.1 - from;
      value_len = length a.value.now;
      next = a.value.ref_ptr.1 - from + length a.value.now + 1;
    }

abbrev refactor_from : ℕ → AdsRefactorInfo → RefactorPlaces
refactor_from from r =
    record { count = r.refactor_count; followed = r.next_refactor_info; name = r.name.ref_ptr.1 - from; name_len = length r.name.now; next = r.name.ref_ptr.1 - from + length r.name.now + 1 }

module _ (s : Bor (List ℕ)) (size : ℕ) where
  begins : (part s 0 size).ref_ptr.1 ≡ s.ref_ptr.1
  begins = add-zero s.ref_ptr.1

  same_attribute : (t : Result AdsAttribute Refusal) → map_ok (attribute_places (part s 0 size)) t ≡ map_ok (attribute_places s) t
  same_attribute t = ap (λ (from : ℕ). map_ok (attribute_from from) t) begins

  pub numbered_direct : (all : Attributes) (number : ℕ) → attribute_numbered (part s 0 size) all number ≡ attribute_numbered s all number
  numbered_direct all number = same_attribute _

  pub named_direct : (all : Attributes) (name : List ℕ) → attribute_named (part s 0 size) all name ≡ attribute_named s all name
  named_direct all name = same_attribute _

  same_refactor : (t : Result AdsRefactorInfo Refusal) → map_ok (refactor_places (part s 0 size)) t ≡ map_ok (refactor_places s) t
  same_refactor t = ap (λ (from : ℕ). map_ok (refactor_from from) t) begins

  pub refactor_direct : (all : RefactorInfos) (number : ℕ) → refactor_numbered (part s 0 size) all number ≡ refactor_numbered s all number
  refactor_direct all number = same_refactor _

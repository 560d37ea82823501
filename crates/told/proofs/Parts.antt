-- Where the records of a list lie in the bytes that it is read from, and what is told of them.
use Rattle.std.proofs.Common.{ℕ, zero, suc, ◌+◌, ◌-◌, ◌<◌, ◌≤◌, ◌≡◌, refl, sym, ap, ◌∙◌, subst, List, [], ◌∷◌, length, take, drop, get_or, Ok, Err, Result, arith, Bor, length-drop}
use Rattle.part.specs.Slice.{part, after}
use Rattle.part.specs.Outcome.{outcome}
use Rattle.part.proofs.Slice.{after_after, part_after}
use Rattle.refusal.specs.declared.Refusal.{Refusal}
use Rattle.attribute.specs.declared.AdsAttribute.{AdsAttribute}
use Rattle.attribute.specs.Attribute as attribute
use Rattle.refactor.specs.declared.AdsRefactorInfo.{AdsRefactorInfo}
use Rattle.refactor.specs.Refactor as refactor
use Rattle.places.specs.Places.{attribute_places, refactor_places}
use Rattle.places.proofs.Attributes as attributes
use Rattle.places.proofs.Refactors as refactors
use Rattle.told.specs.Slots.{attribute_slots, refactor_slots}
use Rattle.told.specs.Meaning.{AttributeTold, AttributesTold, RefactorTold, RefactorsTold}

module _ (e : Bor (List ℕ)) where
  attribute_told : (at : ℕ) (p : AdsAttribute × Bor (List ℕ)) → attribute.first_of (after e at) ≡ Ok p → AttributeTold e p.0 (λ k. get_or (attribute_slots (attribute_places e p.0)) k 0)
  attribute_told at p h =
      let i = attributes.stands (after e at) p h in
      let n : ℕ = length p.0.name.now in
      let v : ℕ = length p.0.value.now in
      let name : p.0.name.ref_ptr.1 - e.ref_ptr.1 ≡ at + 2 = omega (arith, ap (λ (s : Bor (List ℕ)). s.ref_ptr.1) i.name) in
      let value : p.0.value.ref_ptr.1 - e.ref_ptr.1 ≡ at + n + 3 = omega (arith, ap (λ (s : Bor (List ℕ)). s.ref_ptr.1) i.value) in
      let start : p.0.name.ref_ptr.1 - e.ref_ptr.1 - 2 ≡ at = omega arith in
      let rest : p.1 ≡ after e (p.0.value.ref_ptr.1 - e.ref_ptr.1 + v + 1) = i.rest ∙ after_after e at (n + v + 4) ∙ ap (after e) (omega arith) in
      record {
        name = sym (i.name ∙ part_after e at 2 n ∙ ap (λ (k : ℕ). part e k n) (omega arith));
        value = sym (i.value ∙ part_after e at (n + 3) v ∙ ap (λ (k : ℕ). part e k v) (omega arith));
        read = ap (λ (k : ℕ). attribute.first_of (after e k)) start ∙ h ∙ ap (λ (t : Bor (List ℕ)). Ok (p.0, t)) rest;
      }

  attributes_found : (count at k : ℕ) (a : AdsAttribute) → k < length (attribute.listed (after e at) count) → get_or (attribute.listed (after e at) count) k a ≡ a
      → AttributeTold e a (λ k. get_or (attribute_slots (attribute_places e a)) k 0)
  unfolding attribute.listed
  attributes_found zero at k a l h = absurd (omega arith)
  attributes_found (suc left) at k a l h = by (attribute.first_of (after e at)) refl (λ to j. attributes_found left to j a) k l h
    where
      by : (w : Result (AdsAttribute × Bor (List ℕ)) Refusal) → attribute.first_of (after e at) ≡ w
          → ((to j : ℕ) → j < length (attribute.listed (after e to) left) → get_or (attribute.listed (after e to) left) j a ≡ a → AttributeTold e a (λ k. get_or (attribute_slots (attribute_places e a)) k 0))
          → (j : ℕ) → j < length (outcome w (λ p. p.0 ∷ attribute.listed p.1 left) (λ why. [])) → get_or (outcome w (λ p. p.0 ∷ attribute.listed p.1 left) (λ why. [])) j a ≡ a
          → AttributeTold e a (λ k. get_or (attribute_slots (attribute_places e a)) k 0)
      by (Err why) f on j l h = absurd (omega arith)
      by (Ok p) f on zero l h = subst (λ (x : AdsAttribute). AttributeTold e x (λ k. get_or (attribute_slots (attribute_places e x)) k 0)) h (attribute_told at p f)
      by (Ok p) f on (suc j) l h =
          let n : ℕ = length p.0.name.now + length p.0.value.now + 4 in
          let rest : p.1 ≡ after e (at + n) = (attributes.stands (after e at) p f).rest ∙ after_after e at n in
          let long : length (attribute.listed p.1 left) ≡ length (attribute.listed (after e (at + n)) left) = ap (λ (t : Bor (List ℕ)). length (attribute.listed t left)) rest in
          on (at + n) j (omega arith) (ap (λ (t : Bor (List ℕ)). get_or (attribute.listed t left) j a) (sym rest) ∙ h)

pub attributes_told : AttributesTold
attributes_told e at count a c = attributes_found e count at c.0 a c.1 c.2

-- a refactor record likewise
module _ (e : Bor (List ℕ)) where
  refactor_told : (at : ℕ) (p : AdsRefactorInfo × Bor (List ℕ)) → refactor.first_of (after e at) ≡ Ok p → RefactorTold e p.0 (λ k. get_or (refactor_slots (refactor_places e p.0)) k 0)
  refactor_told at p h =
      let i = refactors.stands (after e at) p h in
      let n : ℕ = length p.0.name.now in
      let name : p.0.name.ref_ptr.1 - e.ref_ptr.1 ≡ at + 6 = omega (arith, ap (λ (s : Bor (List ℕ)). s.ref_ptr.1) i.name) in
      let start : p.0.name.ref_ptr.1 - e.ref_ptr.1 - 6 ≡ at = omega arith in
      let rest : p.1 ≡ after e (p.0.name.ref_ptr.1 - e.ref_ptr.1 + n + 1) = i.rest ∙ after_after e at (n + 7) ∙ ap (after e) (omega arith) in
      record {
        count = refl;
        followed = refl;
        name = sym (i.name ∙ part_after e at 6 n ∙ ap (λ (k : ℕ). part e k n) (omega arith));
        read = ap (λ (k : ℕ). refactor.first_of (after e k)) start ∙ h ∙ ap (λ (t : Bor (List ℕ)). Ok (p.0, t)) rest;
      }

  refactors_found : (count at k : ℕ) (r : AdsRefactorInfo) → k < length (refactor.listed (after e at) count) → get_or (refactor.listed (after e at) count) k r ≡ r
      → RefactorTold e r (λ k. get_or (refactor_slots (refactor_places e r)) k 0)
  unfolding refactor.listed
  refactors_found zero at k r l h = absurd (omega arith)
  refactors_found (suc left) at k r l h = by (refactor.first_of (after e at)) refl (λ to j. refactors_found left to j r) k l h
    where
      by : (w : Result (AdsRefactorInfo × Bor (List ℕ)) Refusal) → refactor.first_of (after e at) ≡ w
          → ((to j : ℕ) → j < length (refactor.listed (after e to) left) → get_or (refactor.listed (after e to) left) j r ≡ r → RefactorTold e r (λ k. get_or (refactor_slots (refactor_places e r)) k 0))
          → (j : ℕ) → j < length (outcome w (λ p. p.0 ∷ refactor.listed p.1 left) (λ why. [])) → get_or (outcome w (λ p. p.0 ∷ refactor.listed p.1 left) (λ why. [])) j r ≡ r
          → RefactorTold e r (λ k. get_or (refactor_slots (refactor_places e r)) k 0)
      by (Err why) f on j l h = absurd (omega arith)
      by (Ok p) f on zero l h = subst (λ (x : AdsRefactorInfo). RefactorTold e x (λ k. get_or (refactor_slots (refactor_places e x)) k 0)) h (refactor_told at p f)
      by (Ok p) f on (suc j) l h =
          let n : ℕ = length p.0.name.now + 7 in
          let rest : p.1 ≡ after e (at + n) = (refactors.stands (after e at) p f).rest ∙ after_after e at n in
          let long : length (refactor.listed p.1 left) ≡ length (refactor.listed (after e (at + n)) left) = ap (λ (t : Bor (List ℕ)). length (refactor.listed t left)) rest in
          on (at + n) j (omega arith) (ap (λ (t : Bor (List ℕ)). get_or (refactor.listed t left) j r) (sym rest) ∙ h)

pub refactors_told : RefactorsTold
refactors_told e at count r c = refactors_found e count at c.0 r c.1 c.2

-- A record, or a chain, that stands alone.
use Rattle.std.proofs.Common.{◌≡◌, ℕ, zero, suc, ◌+◌, ◌-◌, ◌≤◌, Bool, true, false, List, length, Ok, Err, Result, arith, Bor, refl, sym, ap, ◌∙◌, subst}
use Rattle.std.specs.Prelude.{if◌then◌else◌}
use Rattle.part.specs.Slice.{after}
use Rattle.part.specs.End.{IsEnd}
use Rattle.part.proofs.Slice.{end_self, end_again, end_memory}
use Rattle.part.specs.Outcome.{outcome, and_then}
use Rattle.refusal.specs.declared.Mode.{Mode}
use Rattle.refusal.specs.declared.Refusal.{Refusal}
use Rattle.attribute.specs.declared.AdsAttribute.{AdsAttribute}
use Rattle.attribute.specs.Attribute as attribute
use Rattle.refactor.specs.declared.AdsRefactorInfo.{AdsRefactorInfo}
use Rattle.refactor.specs.declared.RefactorInfos.{RefactorInfos}
use Rattle.refactor.specs.Refactor as refactor
use Rattle.places.specs.Places.{IsAttributeBefore, IsRefactorBefore}
use Rattle.places.proofs.Attributes as attributes
use Rattle.places.proofs.Refactors as refactors

first_alone : (mode : Mode) (s : Bor (List ℕ)) (a : AdsAttribute) → attribute.alone mode s ≡ Ok a → (p : AdsAttribute × Bor (List ℕ)) × ((attribute.first_of s ≡ Ok p) × (p.0 ≡ a))
first_alone mode s a h = by (attribute.first_of s) refl
  where
    by : (w : Result (AdsAttribute × Bor (List ℕ)) Refusal) → attribute.first_of s ≡ w → (p : AdsAttribute × Bor (List ℕ)) × ((attribute.first_of s ≡ Ok p) × (p.0 ≡ a))
    by (Ok p) e = (p, (e, grind arith))
    by (Err why) e = grind arith

pub attribute_room : (mode : Mode) (s : Bor (List ℕ)) (a : AdsAttribute) → attribute.alone mode s ≡ Ok a → length a.name.now + length a.value.now + 4 ≤ length s.now
attribute_room mode s a h =
    let f = first_alone mode s a h in
    subst (λ (x : AdsAttribute). length x.name.now + length x.value.now + 4 ≤ length s.now) f.1.1 (attributes.stands s f.0 f.1.0).room

-- what is left behind it
pub attribute_alone_before : (mode : Mode) (s : Bor (List ℕ)) (a : AdsAttribute) → attribute.alone mode s ≡ Ok a
    → IsAttributeBefore s a (after s (length a.name.now + length a.value.now + 4))
attribute_alone_before mode s a h =
    let f = first_alone mode s a h in
    let rest : f.0.1 ≡ after s (length a.name.now + length a.value.now + 4) =
    (attributes.stands s f.0 f.1.0).rest ∙ ap (λ (x : AdsAttribute). after s (length x.name.now + length x.value.now + 4)) f.1.1 in
    subst (IsAttributeBefore s a) rest (subst (λ (x : AdsAttribute). IsAttributeBefore s x f.0.1) f.1.1 (attributes.first_before s f.0 f.1.0))

-- what is left after a chain is its end
turn_by : (s : Bor (List ℕ)) (count left : ℕ) (q : ℕ × Bor (List ℕ)) (p : AdsRefactorInfo × Bor (List ℕ)) → refactor.first_of s ≡ Ok p
    → ((t : Bor (List ℕ)) → refactor.chained t (count + 1) left ≡ Ok q → IsEnd t q.1) → (b : Bool) → p.0.next_refactor_info ≡ b
    → (if b then refactor.chained p.1 (count + 1) left else Ok (count + 1, p.1)) ≡ Ok q → IsEnd s q.1
turn_by s count left q p e ih true f h = end_again (refactors.first_before s p e).end (ih p.1 h)
turn_by s count left q p e ih false f h =
    let is : p.1 ≡ q.1 = cc in
    subst (IsEnd s) is (refactors.first_before s p e).end

chained_by : (s : Bor (List ℕ)) (count left : ℕ) (q : ℕ × Bor (List ℕ)) (w : Result (AdsRefactorInfo × Bor (List ℕ)) Refusal) → refactor.first_of s ≡ w
    → ((t : Bor (List ℕ)) → refactor.chained t (count + 1) left ≡ Ok q → IsEnd t q.1)
    → outcome w (λ p. if p.0.next_refactor_info then refactor.chained p.1 (count + 1) left else Ok (count + 1, p.1)) Err ≡ Ok q → IsEnd s q.1
chained_by s count left q (Ok p) e ih h = turn_by s count left q p e ih p.0.next_refactor_info refl h
chained_by s count left q (Err why) e ih h = cc

chained_ends : (s : Bor (List ℕ)) (count left : ℕ) (q : ℕ × Bor (List ℕ)) → refactor.chained s count left ≡ Ok q → IsEnd s q.1
unfolding refactor.chained
chained_ends s count zero q h = cc
chained_ends s count (suc left) q h = chained_by s count left q (refactor.first_of s) refl (λ t. chained_ends t (count + 1) left q) h

pub alone_is : (mode : Mode) (s : Bor (List ℕ)) (q : RefactorInfos × Bor (List ℕ)) → refactor.chain_alone mode s ≡ Ok q → refactor.infos_of s ≡ Ok q
alone_is mode s q h = grind arith

infos_by : (s : Bor (List ℕ)) (q : RefactorInfos × Bor (List ℕ)) (w : Result (ℕ × Bor (List ℕ)) Refusal) → refactor.chain_of s ≡ w
    → and_then w (λ p. Ok (record { bytes = s; count = p.0 }, p.1)) ≡ Ok q → (IsEnd s q.1) × (q.0.bytes ≡ s)
infos_by s q (Ok p) e h =
    let rest : p.1 ≡ q.1 = cc in
    let infos : record { bytes = s; count = p.0 } ≡ q.0 = cc in
    (subst (IsEnd s) rest (chained_ends s 0 (length s.now) p e), sym (ap (λ (i : RefactorInfos). i.bytes) infos))
infos_by s q (Err why) e h = cc

of_chain : (mode : Mode) (s : Bor (List ℕ)) (q : RefactorInfos × Bor (List ℕ)) → refactor.chain_alone mode s ≡ Ok q → (IsEnd s q.1) × (q.0.bytes ≡ s)
of_chain mode s q h = infos_by s q (refactor.chain_of s) refl (alone_is mode s q h)

pub chain_ends : (mode : Mode) (s : Bor (List ℕ)) (q : RefactorInfos × Bor (List ℕ)) → refactor.chain_alone mode s ≡ Ok q → q.1.ref_ptr.1 - s.ref_ptr.1 ≡ length s.now - length q.1.now
chain_ends mode s q h =
    let i = (of_chain mode s q h).0 in
    omega (arith, end_memory i, i.within)

pub chain_within : (mode : Mode) (s : Bor (List ℕ)) (q : RefactorInfos × Bor (List ℕ)) → refactor.chain_alone mode s ≡ Ok q → length q.1.now ≤ length s.now
chain_within mode s q h = (of_chain mode s q h).0.within

pub chain_end : (mode : Mode) (s : Bor (List ℕ)) (q : RefactorInfos × Bor (List ℕ)) → refactor.chain_alone mode s ≡ Ok q → IsEnd s q.0.bytes
chain_end mode s q h = subst (IsEnd s) (sym (of_chain mode s q h).1) (end_self s)

first_record : (mode : Mode) (s : Bor (List ℕ)) (r : AdsRefactorInfo) → refactor.alone mode s ≡ Ok r → (p : AdsRefactorInfo × Bor (List ℕ)) × ((refactor.first_of s ≡ Ok p) × (p.0 ≡ r))
first_record mode s r h = by (refactor.first_of s) refl
  where
    by : (w : Result (AdsRefactorInfo × Bor (List ℕ)) Refusal) → refactor.first_of s ≡ w → (p : AdsRefactorInfo × Bor (List ℕ)) × ((refactor.first_of s ≡ Ok p) × (p.0 ≡ r))
    by (Ok p) e = (p, (e, grind arith))
    by (Err why) e = grind arith

pub refactor_room : (mode : Mode) (s : Bor (List ℕ)) (r : AdsRefactorInfo) → refactor.alone mode s ≡ Ok r → length r.name.now + 7 ≤ length s.now
refactor_room mode s r h =
    let f = first_record mode s r h in
    subst (λ (x : AdsRefactorInfo). length x.name.now + 7 ≤ length s.now) f.1.1 (refactors.stands s f.0 f.1.0).room

pub refactor_alone_before : (mode : Mode) (s : Bor (List ℕ)) (r : AdsRefactorInfo) → refactor.alone mode s ≡ Ok r → IsRefactorBefore s r (after s (length r.name.now + 7))
refactor_alone_before mode s r h =
    let f = first_record mode s r h in
    let rest : f.0.1 ≡ after s (length r.name.now + 7) = (refactors.stands s f.0 f.1.0).rest ∙ ap (λ (x : AdsRefactorInfo). after s (length x.name.now + 7)) f.1.1 in
    subst (IsRefactorBefore s r) rest (subst (λ (x : AdsRefactorInfo). IsRefactorBefore s x f.0.1) f.1.1 (refactors.first_before s f.0 f.1.0))

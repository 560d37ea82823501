-- Where a refactor record lies, by what an iterator that gave it has left.
use Rattle.std.proofs.Common.{◌≡◌, ℕ, zero, suc, ◌+◌, ◌≤◌, List, [], ◌∷◌, length, Ok, Err, Result, arith, Bor, refl, sym, ap, ap₂, ◌∙◌, subst}
use Rattle.std.specs.Prelude.{Some}
use Rattle.std.specs.Iterator.{Yields}
use Rattle.part.specs.Slice.{part, after}
use Rattle.part.specs.End.{IsEnd}
use Rattle.part.specs.Outcome.{outcome}
use Rattle.part.proofs.Slice.{length_part, is_end, end_self, end_again, end_memory}
use Rattle.refusal.specs.declared.Refusal.{Refusal}
use Rattle.le.specs.Le.{le2}
use Rattle.refactor.specs.declared.AdsRefactorInfo.{AdsRefactorInfo}
use Rattle.refactor.specs.declared.RefactorInfos.{RefactorInfos}
use Rattle.refactor.specs.Refactor.{first_of, sized, listed, NextGives}
use Rattle.refactor.proofs.Left.{goes_on}
use Rattle.places.specs.Places.{IsRefactorBefore}

-- the record at the start of some bytes, and what is behind it
pub record Stands (s : Bor (List ℕ)) (p : AdsRefactorInfo × Bor (List ℕ)) : Type 0 where
  pub name : p.0.name ≡ part s 6 (length p.0.name.now)
  pub rest : p.1 ≡ after s (length p.0.name.now + 7)
  pub room : length p.0.name.now + 7 ≤ length s.now

by_length : (s : Bor (List ℕ)) (n : ℕ) (p : AdsRefactorInfo × Bor (List ℕ)) → sized s n ≡ Ok p → Stands s p
by_length s n p h =
    let room : n + 7 ≤ length s.now = grind arith in
    let name_is : p.0.name ≡ part s 6 n = grind arith in
    let rest_is : p.1 ≡ after s (n + 7) = grind arith in
    let long : length p.0.name.now ≡ n = ap (λ (t : Bor (List ℕ)). length t.now) name_is ∙ length_part s 6 n (omega arith) in
    record { name = name_is ∙ ap (part s 6) (sym long); rest = rest_is ∙ ap (λ (k : ℕ). after s (k + 7)) (sym long); room = omega arith }

pub stands : (s : Bor (List ℕ)) (p : AdsRefactorInfo × Bor (List ℕ)) → first_of s ≡ Ok p → Stands s p
unfolding first_of
stands s p h = by_length s (le2 s.now 4) p h

pub first_before : (s : Bor (List ℕ)) (p : AdsRefactorInfo × Bor (List ℕ)) → first_of s ≡ Ok p → IsRefactorBefore s p.0 p.1
first_before s p h =
    let i = stands s p h in
    let n : p.0.name.ref_ptr.1 ≡ s.ref_ptr.1 + 6 = ap (λ (t : Bor (List ℕ)). t.ref_ptr.1) i.name in
    let r : p.1.ref_ptr.1 ≡ s.ref_ptr.1 + (length p.0.name.now + 7) = ap (λ (t : Bor (List ℕ)). t.ref_ptr.1) i.rest in
    record { end = is_end s p.1 (length p.0.name.now + 7) i.room i.rest; start = omega arith; name = omega arith }

-- what an iterator gives stands at the start of its bytes, and those behind it are left
given : (s : Bor (List ℕ)) (n : ℕ) (r : AdsRefactorInfo) (t : RefactorInfos) → NextGives (record { bytes = s; count = n }) (Some r) t → first_of s ≡ Ok (r, t.bytes)
unfolding listed
given s zero r t g = cc g.0
given s (suc n) r t g = by (first_of s) refl g.0
  where
    by : (w : Result (AdsRefactorInfo × Bor (List ℕ)) Refusal) → first_of s ≡ w → outcome w (λ p. p.0 ∷ listed p.1 n) (λ why. []) ≡ r ∷ listed t.bytes t.count → first_of s ≡ Ok (r, t.bytes)
    by (Ok p) e l =
        let same : p.0 ≡ r = cc in
        let left = (goes_on (record { bytes = s; count = suc n }) p e (λ z. cc)).1 in
        e ∙ ap₂ (λ (x : AdsRefactorInfo) (y : Bor (List ℕ)). Ok (x, y)) same (ap (λ (x : RefactorInfos). x.bytes) (left ∙ sym g.1))
    by (Err why) e l = cc

pub next_before : (s t : RefactorInfos) (r : AdsRefactorInfo) → NextGives s (Some r) t → IsRefactorBefore s.bytes r t.bytes
next_before s t r g = first_before s.bytes (r, t.bytes) (given s.bytes s.count r t g)

-- what is left after some were given is an end of what there was
rest_ends : (xs : List AdsRefactorInfo) (s t : RefactorInfos) → Yields NextGives s xs t → IsEnd s.bytes t.bytes
rest_ends [] s t y = subst (λ (x : RefactorInfos). IsEnd s.bytes x.bytes) y (end_self s.bytes)
rest_ends (x ∷ xs) s t y = end_again (next_before s y.0 x y.1).end (rest_ends xs y.0 t y.2)

-- so is the record that is given then before what is left after it, of an entry that ends with them
pub given_before : (e : Bor (List ℕ)) (all t u : RefactorInfos) (xs : List AdsRefactorInfo) (r : AdsRefactorInfo) → IsEnd e all.bytes → Yields NextGives all xs t → NextGives t (Some r) u → IsRefactorBefore e r u.bytes
given_before e all t u xs r o y g =
    let b = next_before t u r g in
    let i = end_again o (rest_ends xs all t y) in
    record { end = end_again i b.end; start = omega (arith, b.start, end_memory i, i.within); name = b.name }

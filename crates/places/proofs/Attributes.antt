-- Where an attribute lies, by what an iterator that gave it has left.
use Rattle.std.proofs.Common.{◌≡◌, ℕ, zero, suc, ◌+◌, ◌≤◌, List, [], ◌∷◌, length, Ok, Err, Result, arith, Bor, refl, sym, ap, ap₂, ◌∙◌, subst}
use Rattle.std.specs.Prelude.{Some}
use Rattle.std.specs.Iterator.{Yields}
use Rattle.part.specs.Slice.{part, after}
use Rattle.part.specs.End.{IsEnd}
use Rattle.part.specs.Outcome.{outcome}
use Rattle.part.proofs.Slice.{length_part, is_end, end_self, end_again, end_memory}
use Rattle.refusal.specs.declared.Refusal.{Refusal}
use Rattle.attribute.specs.declared.AdsAttribute.{AdsAttribute}
use Rattle.attribute.specs.declared.Attributes.{Attributes}
use Rattle.attribute.specs.Attribute.{first_of, listed, NextGives}
use Rattle.attribute.proofs.Again.{n_of, v_of, fits, is_here}
use Rattle.attribute.proofs.Left.{goes_on}
use Rattle.places.specs.Places.{IsAttributeBefore}

-- the attribute at the start of some bytes, and what is behind it
pub record Stands (s : Bor (List ℕ)) (p : AdsAttribute × Bor (List ℕ)) : Type 0 where
  pub name : p.0.name ≡ part s 2 (length p.0.name.now)
  pub value : p.0.value ≡ part s (length p.0.name.now + 3) (length p.0.value.now)
  pub rest : p.1 ≡ after s (length p.0.name.now + length p.0.value.now + 4)
  pub room : length p.0.name.now + length p.0.value.now + 4 ≤ length s.now

pub stands : (s : Bor (List ℕ)) (p : AdsAttribute × Bor (List ℕ)) → first_of s ≡ Ok p → Stands s p
stands s p h =
    let f = fits s p h in
    let n : length (part s 2 (n_of s)).now ≡ n_of s = length_part s 2 (n_of s) (omega arith) in
    let v : length (part s (n_of s + 3) (v_of s)).now ≡ v_of s = length_part s (n_of s + 3) (v_of s) (omega arith) in
    subst (Stands s) (is_here s p h) (record { name = rw n refl; value = rw (n, v) refl; rest = rw (n, v) refl; room = rw (n, v) f })

pub first_before : (s : Bor (List ℕ)) (p : AdsAttribute × Bor (List ℕ)) → first_of s ≡ Ok p → IsAttributeBefore s p.0 p.1
first_before s p h =
    let i = stands s p h in
    let n : p.0.name.ref_ptr.1 ≡ s.ref_ptr.1 + 2 = ap (λ (t : Bor (List ℕ)). t.ref_ptr.1) i.name in
    let v : p.0.value.ref_ptr.1 ≡ s.ref_ptr.1 + (length p.0.name.now + 3) = ap (λ (t : Bor (List ℕ)). t.ref_ptr.1) i.value in
    let r : p.1.ref_ptr.1 ≡ s.ref_ptr.1 + (length p.0.name.now + length p.0.value.now + 4) = ap (λ (t : Bor (List ℕ)). t.ref_ptr.1) i.rest in
    record { end = is_end s p.1 (length p.0.name.now + length p.0.value.now + 4) i.room i.rest; start = omega arith; name = omega arith; value = omega arith }

-- what an iterator gives stands at the start of its bytes, and those behind it are left
given : (s : Bor (List ℕ)) (n : ℕ) (a : AdsAttribute) (t : Attributes) → NextGives (record { bytes = s; count = n }) (Some a) t → first_of s ≡ Ok (a, t.bytes)
unfolding listed
given s zero a t g = cc g.0
given s (suc n) a t g = by (first_of s) refl g.0
  where
    by : (w : Result (AdsAttribute × Bor (List ℕ)) Refusal) → first_of s ≡ w → outcome w (λ p. p.0 ∷ listed p.1 n) (λ why. []) ≡ a ∷ listed t.bytes t.count → first_of s ≡ Ok (a, t.bytes)
    by (Ok p) e l =
        let same : p.0 ≡ a = cc in
        let left = (goes_on (record { bytes = s; count = suc n }) p e (λ z. cc)).1 in
        e ∙ ap₂ (λ (x : AdsAttribute) (y : Bor (List ℕ)). Ok (x, y)) same (ap (λ (x : Attributes). x.bytes) (left ∙ sym g.1))
    by (Err why) e l = cc

pub next_before : (s t : Attributes) (a : AdsAttribute) → NextGives s (Some a) t → IsAttributeBefore s.bytes a t.bytes
next_before s t a g = first_before s.bytes (a, t.bytes) (given s.bytes s.count a t g)

-- what is left after some were given is an end of what there was
rest_ends : (xs : List AdsAttribute) (s t : Attributes) → Yields NextGives s xs t → IsEnd s.bytes t.bytes
rest_ends [] s t y = subst (λ (x : Attributes). IsEnd s.bytes x.bytes) y (end_self s.bytes)
rest_ends (x ∷ xs) s t y = end_again (next_before s y.0 x y.1).end (rest_ends xs y.0 t y.2)

-- so is the attribute that is given then before what is left after it, of an entry that ends with them
pub given_before : (e : Bor (List ℕ)) (all t u : Attributes) (xs : List AdsAttribute) (a : AdsAttribute) → IsEnd e all.bytes → Yields NextGives all xs t → NextGives t (Some a) u → IsAttributeBefore e a u.bytes
given_before e all t u xs a o y g =
    let b = next_before t u a g in
    let i = end_again o (rest_ends xs all t y) in
    record { end = end_again i b.end; start = omega (arith, b.start, end_memory i, i.within); name = b.name; value = b.value }

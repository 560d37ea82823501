-- Parts of parts.
use Rattle.std.proofs.Common.{ℕ, ◌+◌, ◌-◌, ◌≤◌, ◌≡◌, refl, sym, ap, ◌∙◌, min, List, length, arith, Bor}
use native.Mathlib.Nat.{add-zero}
use Rattle.std.proofs.lemmas.List.{take_rest}
use Rattle.le.proofs.Laws.{part_part}
use Rattle.part.specs.Slice.{part, after}
use Rattle.data_type.specs.Level.{cut}

pub bor : (p q : ℕ × ℕ) (xs ys : List ℕ) → p ≡ q → xs ≡ ys → ◌≡◌ {A = Bor (List ℕ)} (record { ref_ptr = p; now = xs }) (record { ref_ptr = q; now = ys })
bor p q xs ys h k = simp (h, k)

pub part_in : (s : Bor (List ℕ)) (at n k m : ℕ) → k + m ≤ n → part (part s at n) k m ≡ part s (at + k) m
unfolding Rattle.le.specs.Le.part
part_in s at n k m h =
    let p : s.ref_ptr.1 + at + k ≡ s.ref_ptr.1 + (at + k) = omega arith in
    bor _ _ _ _ (ap (λ (x : ℕ). (s.ref_ptr.0, x)) p) (part_part s.now at n k m h)

pub after_is : (s : Bor (List ℕ)) (k : ℕ) → after s k ≡ part s k (length s.now - k)
after_is s k = bor _ _ _ _ refl (sym (take_rest s.now k))

pub cut_inside : (s : Bor (List ℕ)) (at stop : ℕ) → at ≤ stop → stop ≤ length s.now → cut s at stop ≡ part s at (stop - at)
cut_inside s at stop h k =
    let e : min stop (length s.now) ≡ stop = omega arith in
    let a : min at stop ≡ at = omega arith in
    simp (e, a)

pub cut_all : (s : Bor (List ℕ)) → cut s 0 (length s.now) ≡ s
cut_all s =
    cut_inside s 0 (length s.now) (omega arith) (omega arith) ∙ sym (after_is s 0) ∙ bor _ _ _ _ (ap (λ (x : ℕ). (s.ref_ptr.0, x)) (add-zero s.ref_ptr.1)) refl

-- Laws of parts of parts, and of bytes that are the end of others.
use Rattle.std.proofs.Common.{ℕ, ◌+◌, ◌<◌, ◌≤◌, ◌≡◌, List, length, take, refl, sym, ap, ap₂, ◌∙◌, arith, length-drop, drop-drop, subst, Bor}
use native.Mathlib.Nat.{add_assoc, add-zero}
use lib.Seq.{length-take-le}
use Rattle.part.specs.Slice.{part, after}
use Rattle.part.specs.End.{rest_at, IsEnd, IsString}

pub after_after : (s : Bor (List ℕ)) (k m : ℕ) → after (after s k) m ≡ after s (k + m)
after_after s k m = ap₂ (λ (x : ℕ) (y : List ℕ). record { ref_ptr = (s.ref_ptr.0, x); now = y }) (add_assoc s.ref_ptr.1 k m) (drop-drop m k s.now)

pub part_after : (s : Bor (List ℕ)) (k at n : ℕ) → part (after s k) at n ≡ part s (k + at) n
part_after s k at n = ap₂ (λ (x : ℕ) (y : List ℕ). record { ref_ptr = (s.ref_ptr.0, x); now = take n y }) (add_assoc s.ref_ptr.1 k at) (drop-drop at k s.now)

pub after_zero : (s : Bor (List ℕ)) → s ≡ after s 0
after_zero s = ap (λ (x : ℕ). record { ref_ptr = (s.ref_ptr.0, x); now = s.now }) (sym (add-zero s.ref_ptr.1))

pub length_part : (s : Bor (List ℕ)) (at n : ℕ) → at + n ≤ length s.now → length (part s at n).now ≡ n
length_part s at n h = length-take-le n _ (simp length-drop (omega arith))

-- where an end begins, by the place from which it was taken
pub end_from : (e s : Bor (List ℕ)) (at : ℕ) → at ≤ length e.now → s ≡ after e at → rest_at e s ≡ at
end_from e s at h is = omega (arith, ap (λ (q : Bor (List ℕ)). length q.now) is, length-drop at e.now)

pub is_end : (e s : Bor (List ℕ)) (at : ℕ) → at ≤ length e.now → s ≡ after e at → IsEnd e s
is_end e s at h is = record {
  is = is ∙ ap (after e) (sym (end_from e s at h is));
  within = omega (arith, ap (λ (q : Bor (List ℕ)). length q.now) is, length-drop at e.now);
}

-- all bytes, an end of an end, and what is behind some bytes of an end
pub end_self : (s : Bor (List ℕ)) → IsEnd s s
end_self s = is_end s s 0 (omega arith) (after_zero s)

pub end_again : {e s t : Bor (List ℕ)} → IsEnd e s → IsEnd s t → IsEnd e t
end_again {e} {s} {t} a b = record {
  is = b.is ∙ ap (λ (q : Bor (List ℕ)). after q (rest_at s t)) a.is ∙ after_after e (rest_at e s) (rest_at s t) ∙ ap (after e) (omega (arith, a.within, b.within));
  within = omega (arith, a.within, b.within);
}

pub end_after : {e s : Bor (List ℕ)} (n : ℕ) → n ≤ length s.now → IsEnd e s → IsEnd e (after s n)
end_after {e} {s} n h a = end_again a (is_end s (after s n) n h refl)

-- an end reaches in memory to where the whole ends
pub end_memory : {e s : Bor (List ℕ)} → IsEnd e s → s.ref_ptr.1 + length s.now ≡ e.ref_ptr.1 + length e.now
end_memory a = omega (arith, ap (λ (q : Bor (List ℕ)). q.ref_ptr.1) a.is, a.within)

-- a part of an end is a part of the whole
pub part_of_end : {e s : Bor (List ℕ)} → IsEnd e s → (at n : ℕ) → part s at n ≡ part e (rest_at e s + at) n
part_of_end {e} {s} a at n = ap (λ (q : Bor (List ℕ)). part q at n) a.is ∙ part_after e (rest_at e s) at n

-- a string of an end is a string of the whole
pub string_in : (e s q : Bor (List ℕ)) (k : ℕ) → IsEnd e s → q ≡ part s k (length q.now) → k + length q.now < length s.now → IsString e (rest_at e s + k) q
string_in e s q k a h l = record {
  is = h ∙ part_of_end a k (length q.now);
  within = omega (arith, l, a.within);
}

-- the same place, counted otherwise
pub string_at : (e q : Bor (List ℕ)) (at to : ℕ) → at ≡ to → IsString e at q → IsString e to q
string_at e q at to h s = subst (λ k. IsString e k q) h s

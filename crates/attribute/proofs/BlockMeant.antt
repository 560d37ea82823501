-- Which blocks of attributes are refused, and how an attribute is written: proved.
use Rattle.std.proofs.Common.{◌≡◌, ℕ, zero, suc, ◌+◌, ◌-◌, ◌<◌, ◌≤◌, Bool, true, false, List, [], length, take, drop, Ok, Err, Result, refl, sym, ap, ◌∙◌, subst, arith, length-drop, append-nil, Bor}
use Rattle.std.specs.Prelude.{eqb, ltb}
use borrow.Author.Tests.{ltb-true, ltb-false, eqb-true, eqb-false}
use Rattle.le.specs.Le.{part}
use Rattle.part.specs.Slice.{after}
use Rattle.refusal.specs.declared.Refusal.{Refusal}
use Rattle.refusal.specs.declared.Refusal.TheVariants.{BadBlock}
use Rattle.attribute.specs.Block.{good_of, exact}
use Rattle.attribute.specs.Told.{Told}
use Rattle.attribute.specs.Writing.{attribute_bytes, lengths_checked}
use Rattle.attribute.specs.Laid.{size, byte}
use Rattle.attribute.specs.BlockMeant.{IsGood, Good, none, one_more, BlockMeant, passes, longer, fewer, IsLaid, Written, name_too_long, value_too_long, written, AttributesRefused}
use Rattle.attribute.proofs.Again as again
use Rattle.part.proofs.Slice.{after_after, after_zero}
use Rattle.attribute.proofs.Again.{n_of, v_of, here, good_here}
use Rattle.attribute.proofs.Fit.{is_written, exact_turn, good_turn}
use Rattle.attribute.proofs.Written as writes

-- a good one by the bytes is what the block's reader takes for good
module _ (s : Bor (List ℕ)) where
  is_good : IsGood s.now → again.IsGood s (here s).1
  is_good g =
      let t = g.whole in
      record {
        there = omega arith;
        next_is = refl;
        name = g.name_ended;
        value = ap (λ (k : ℕ). byte s.now k) (omega arith) ∙ g.value_ended;
      }

  good_by : again.IsGood s (here s).1 → IsGood s.now
  good_by g =
      let t = g.there in
      record { whole = omega arith; name_ended = g.name; value_ended = ap (λ (k : ℕ). byte s.now k) (omega arith) ∙ g.value }

  next_is : (here s).1 ≡ after s (size s.now)
  next_is = ap (after s) (omega arith)

  bad : (why : Refusal) → good_of s ≡ Err why → IsGood s.now → ⊥
  bad why e g = let z : ◌≡◌ {A = Result (Bor (List ℕ)) Refusal} (Err why) (Ok (here s).1) = sym e ∙ good_turn s (is_good g) in cc

exact_none : (s : Bor (List ℕ)) (count : ℕ) (t : Bool) → eqb (length s.now) 0 ≡ t → (length s.now ≡ 0 → exact s count 0 ≡ Ok tt) × ((length s.now ≡ 0 → ⊥) → exact s count 0 ≡ Err (BadBlock count count))
unfolding exact
exact_none s count true e = (λ h. simp e, λ n. absurd (n (eqb-true (length s.now) 0 e)))
exact_none s count false e = (λ h. absurd (eqb-false (length s.now) 0 e h), λ n. simp e)

exact_bad : (s : Bor (List ℕ)) (count left : ℕ) (why : Refusal) → good_of s ≡ Err why → exact s count (suc left) ≡ Err (BadBlock count (count - suc left))
unfolding exact
exact_bad s count left why e = simp e

-- what is found from a place of a block on, where so many are left of its count
data From (count : ℕ) (w : Bor (List ℕ)) (from left : ℕ) : Type 0 where
  passes_from : Good w.now from (length w.now) left → exact (after w from) count left ≡ Ok tt → From count w from left
  longer_from : (at : ℕ) → Good w.now from at left → at < length w.now → exact (after w from) count left ≡ Err (BadBlock count count) → From count w from left
  fewer_from : (at good : ℕ) → Good w.now from at good → good < left → (IsGood (drop at w.now) → ⊥) → exact (after w from) count left ≡ Err (BadBlock count (count - left + good)) → From count w from left

module _ (count : ℕ) (w : Bor (List ℕ)) where
  at_end : (from : ℕ) → from ≤ length w.now → (t : Bool) → eqb (length (after w from).now) 0 ≡ t → From count w from 0
  at_end from h true e =
      let z : from ≡ length w.now = omega (arith, eqb-true (length (after w from).now) 0 e, length-drop from w.now) in
      passes_from (subst (λ k. Good w.now from k 0) z none) ((exact_none (after w from) count true e).0 (eqb-true _ 0 e))
  at_end from h false e =
      let n = eqb-false (length (after w from).now) 0 e in
      longer_from from none (omega (arith, n, length-drop from w.now)) ((exact_none (after w from) count false e).1 n)

  module _ (from left : ℕ) (fits : suc left ≤ count) where
    abbrev s : Bor (List ℕ)
    s = after w from

    turn : IsGood s.now → exact s count (suc left) ≡ exact (after w (from + size s.now)) count left
    turn g = exact_turn s count left (is_good s g) ∙ ap (λ (x : Bor (List ℕ)). exact x count left) (next_is s ∙ after_after w from (size s.now))

    on : IsGood s.now → From count w (from + size s.now) left → From count w from (suc left)
    on g (passes_from p e) = passes_from (one_more g p) (turn g ∙ e)
    on g (longer_from at p l e) = longer_from at (one_more g p) l (turn g ∙ e)
    on g (fewer_from at good p l not e) = fewer_from at (suc good) (one_more g p) (omega arith) not (turn g ∙ e ∙ ap (λ (k : ℕ). Err (BadBlock count k)) (omega arith))

    by_good : (r : Result (Bor (List ℕ)) Refusal) → good_of s ≡ r → (IsGood s.now → From count w (from + size s.now) left) → From count w from (suc left)
    by_good (Ok next) e more =
        let a = good_here s next e in
        let g = good_by s (record { there = a.there; next_is = refl; name = a.name; value = a.value }) in
        on g (more g)
    by_good (Err why) e more = fewer_from from 0 none (omega arith) (bad s why e) (exact_bad s count left why e ∙ ap (λ (k : ℕ). Err (BadBlock count k)) (omega arith))

  from_here : (left from : ℕ) → left ≤ count → from ≤ length w.now → From count w from left
  from_here zero from f h = at_end from h (eqb (length (after w from).now) 0) refl
  from_here (suc left) from f h = by_good from left f (good_of (after w from)) refl (λ g. from_here left (from + size (drop from w.now)) (omega arith) (let t = g.whole in omega (arith, length-drop from w.now)))

  whole : From count w 0 count → exact (after w 0) count count ≡ exact w count count → BlockMeant count w
  whole (passes_from p e) z = passes p (sym z ∙ e)
  whole (longer_from at p l e) z = longer at p l (sym z ∙ e)
  whole (fewer_from at good p l not e) z = fewer at good p l not (sym z ∙ e ∙ ap (λ (k : ℕ). Err (BadBlock count k)) (omega arith))

  pub block_meant : BlockMeant count w
  block_meant = whole (from_here count 0 (omega arith) (omega arith)) (ap (λ (x : Bor (List ℕ)). exact x count count) (sym (after_zero w)))

-- an attribute as it is written
module _ (a : Told) where
  abbrev lent : Bor (List ℕ)
  lent = record { ref_ptr = (0, 0); now = attribute_bytes a }

  is_laid : IsLaid a (attribute_bytes a)
  unfolding attribute_bytes part
  is_laid =
      let w = is_written a [] lent (sym (append-nil (attribute_bytes a))) in
      let g = good_by lent w.good in
      record {
        name_long = refl;
        value_long = refl;
        name = ap (λ (t : Told). t.name) w.tells;
        name_ended = g.name_ended;
        value = ap (λ (k : ℕ). take (length a.value) (drop k (attribute_bytes a))) (omega arith) ∙ ap (λ (t : Told). t.value) w.tells;
        value_ended = g.value_ended;
        long = sym w.size ∙ omega arith;
      }

  by_lengths : (t : Bool) → ltb 255 (length a.name) ≡ t → (u : Bool) → ltb 255 (length a.value) ≡ u → Written a
  unfolding lengths_checked
  by_lengths true e u f = name_too_long (ltb-true 255 (length a.name) e) (writes.refused a (simp e))
  by_lengths false e true f = value_too_long (ltb-false 255 (length a.name) e) (ltb-true 255 (length a.value) f) (writes.refused a (simp (e, f)))
  by_lengths false e false f = written (ltb-false 255 (length a.name) e) (ltb-false 255 (length a.value) f) (attribute_bytes a) (writes.passes a {u = tt} (simp (e, f))) is_laid

pub attributes_refused : AttributesRefused
attributes_refused = record { block = block_meant; writing = λ a. by_lengths a (ltb 255 (length a.name)) refl (ltb 255 (length a.value)) refl }

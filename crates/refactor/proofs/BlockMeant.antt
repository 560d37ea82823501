-- Which blocks of refactor records are refused, and what is written: proved.
use Rattle.std.proofs.Common.{◌≡◌, ℕ, zero, suc, ◌+◌, ◌-◌, ◌<◌, ◌≤◌, Bool, true, false, List, [], ◌++◌, length, take, drop, Ok, Err, refl, sym, ap, ◌∙◌, subst, arith, length-drop, append-nil, Bor}
use Rattle.std.specs.Prelude.{eqb, ltb, Option, Some, None}
use Rattle.std.specs.Bool.{beq}
use borrow.Author.Tests.{ltb-true, ltb-false, eqb-true, eqb-false}
use Rattle.le.specs.Le.{part, bytes2}
use Rattle.le.proofs.Laws.{le2_bytes2}
use Rattle.part.specs.Slice.{after}
use Rattle.refusal.specs.Refusal.{limit}
use Rattle.refusal.specs.declared.Refusal.TheVariants.{BadBlock, TooLarge}
use Rattle.writing.specs.Checks.{entry_checked}
use Rattle.refactor.specs.Block.{good_of, exact, block_checked}
use Rattle.refactor.specs.Writing.{packed_of, info_bytes}
use Rattle.refactor.specs.Laid.{size}
use Rattle.refactor.specs.BlockMeant.{IsGood, Good, none, one_more, BlockMeant, passes, longer, fewer, IsLaid, Written, name_too_long, written, Entries, too_many, bad, too_large, entries, RefactorsRefused}
use Rattle.refactor.proofs.Again as again
use Rattle.part.proofs.Slice.{after_after, after_zero}
use Rattle.refactor.proofs.Again.{n_of, here, good_here}
use Rattle.refactor.proofs.Fit.{stands, good_is, exact_on}
use Rattle.refactor.proofs.Written as writes

same_true : (a b : Bool) → a ≡ b → beq a b ≡ true
same_true true true h = refl
same_true false false h = refl
same_true true false h = cc
same_true false true h = cc

-- a good one by the bytes is what the block's reader takes for good
module _ (s : Bor (List ℕ)) (follows : Bool) where
  good_by : again.IsGood s (here s).1 follows → IsGood s.now follows
  good_by g =
      let t = g.there in
      record { whole = omega arith; packed = g.packed; told = g.followed; ended = g.end }

  bad_not : good_of s follows ≡ None → IsGood s.now follows → ⊥
  bad_not e g =
      let t = g.whole in
      let z : ◌≡◌ {A = Option (Bor (List ℕ))} None (Some (here s).1) = sym e ∙ good_is s (omega arith) g.packed g.ended follows true (same_true (here s).0.next_refactor_info follows g.told) in
      cc

next_is : (s : Bor (List ℕ)) → (here s).1 ≡ after s (size s.now)
next_is s = ap (after s) (omega arith)

exact_none : (s : Bor (List ℕ)) (count : ℕ) (t : Bool) → eqb (length s.now) 0 ≡ t → (length s.now ≡ 0 → exact s count 0 ≡ Ok tt) × ((length s.now ≡ 0 → ⊥) → exact s count 0 ≡ Err (BadBlock count count))
unfolding exact
exact_none s count true e = (λ h. simp e, λ n. absurd (n (eqb-true (length s.now) 0 e)))
exact_none s count false e = (λ h. absurd (eqb-false (length s.now) 0 e h), λ n. simp e)

exact_bad : (s : Bor (List ℕ)) (count left : ℕ) → good_of s (ltb 0 left) ≡ None → exact s count (suc left) ≡ Err (BadBlock count (count - suc left))
unfolding exact
exact_bad s count left e = simp e

-- what is found from a place of a block on, where so many are left of its count
data From (count : ℕ) (w : Bor (List ℕ)) (from left : ℕ) : Type 0 where
  passes_from : Good w.now left from (length w.now) left → exact (after w from) count left ≡ Ok tt → From count w from left
  longer_from : (at : ℕ) → Good w.now left from at left → at < length w.now → exact (after w from) count left ≡ Err (BadBlock count count) → From count w from left
  fewer_from : (at good behind : ℕ) → good + suc behind ≡ left → Good w.now left from at good → (IsGood (drop at w.now) (ltb 0 behind) → ⊥)
      → exact (after w from) count left ≡ Err (BadBlock count (count - left + good)) → From count w from left

module _ (count : ℕ) (w : Bor (List ℕ)) where
  at_end : (from : ℕ) → from ≤ length w.now → (t : Bool) → eqb (length (after w from).now) 0 ≡ t → From count w from 0
  at_end from h true e =
      let z : from ≡ length w.now = omega (arith, eqb-true (length (after w from).now) 0 e, length-drop from w.now) in
      passes_from (subst (λ k. Good w.now 0 from k 0) z none) ((exact_none (after w from) count true e).0 (eqb-true _ 0 e))
  at_end from h false e =
      let n = eqb-false (length (after w from).now) 0 e in
      longer_from from none (omega (arith, n, length-drop from w.now)) ((exact_none (after w from) count false e).1 n)

  module _ (from left : ℕ) (fits : suc left ≤ count) where
    abbrev s : Bor (List ℕ)
    s = after w from

    turn : IsGood s.now (ltb 0 left) → exact s count (suc left) ≡ exact (after w (from + size s.now)) count left
    turn g =
        let t = g.whole in
        exact_on s (omega arith) g.packed g.ended count left (same_true (here s).0.next_refactor_info (ltb 0 left) g.told)
        ∙ ap (λ (x : Bor (List ℕ)). exact x count left) (next_is s ∙ after_after w from (size s.now))

    on : IsGood s.now (ltb 0 left) → From count w (from + size s.now) left → From count w from (suc left)
    on g (passes_from p e) = passes_from (one_more g p) (turn g ∙ e)
    on g (longer_from at p l e) = longer_from at (one_more g p) l (turn g ∙ e)
    on g (fewer_from at good behind l p not e) = fewer_from at (suc good) behind (omega arith) (one_more g p) not (turn g ∙ e ∙ ap (λ (k : ℕ). Err (BadBlock count k)) (omega arith))

    by_good : (r : Option (Bor (List ℕ))) → good_of s (ltb 0 left) ≡ r → (IsGood s.now (ltb 0 left) → From count w (from + size s.now) left) → From count w from (suc left)
    by_good (Some next) e more =
        let a = good_here s next (ltb 0 left) e in
        let g = good_by s (ltb 0 left) (record { there = a.there; next_is = refl; packed = a.packed; followed = a.followed; end = a.end }) in
        on g (more g)
    by_good None e more = fewer_from from 0 left (omega arith) none (bad_not s (ltb 0 left) e) (exact_bad s count left e ∙ ap (λ (k : ℕ). Err (BadBlock count k)) (omega arith))

  from_here : (left from : ℕ) → left ≤ count → from ≤ length w.now → From count w from left
  from_here zero from f h = at_end from h (eqb (length (after w from).now) 0) refl
  from_here (suc left) from f h =
      by_good from left f (good_of (after w from) (ltb 0 left)) refl
      (λ g. from_here left (from + size (drop from w.now)) (omega arith) (let t = g.whole in omega (arith, length-drop from w.now)))

  whole : From count w 0 count → exact (after w 0) count count ≡ exact w count count → BlockMeant count w
  whole (passes_from p e) z = passes p (sym z ∙ e)
  whole (longer_from at p l e) z = longer at p l (sym z ∙ e)
  whole (fewer_from at good behind l p not e) z = fewer at good behind l p not (sym z ∙ e ∙ ap (λ (k : ℕ). Err (BadBlock count k)) (omega arith))

  pub block_meant : BlockMeant count w
  block_meant = whole (from_here count 0 (omega arith) (omega arith)) (ap (λ (x : Bor (List ℕ)). exact x count count) (sym (after_zero w)))

-- a record as it is written
module _ (count : ℕ) (has_next : Bool) (name : List ℕ) where
  abbrev lent : Bor (List ℕ)
  lent = record { ref_ptr = (0, 0); now = info_bytes (packed_of count has_next) name }

  is_laid : length name ≤ 65535 → IsLaid count has_next name lent.now
  unfolding packed_of part
  is_laid h =
      let w = stands (record { count = count; name = name }) has_next (record { name = h }) [] lent (sym (append-nil lent.now)) in
      record {
        packed = w.packed_is;
        name_long = let l = w.size in let k = writes.length_info (packed_of count has_next) name in omega (arith, l, k);
        name_is = let l = w.size in let k = writes.length_info (packed_of count has_next) name in let n : n_of lent ≡ length name = omega (arith, l, k) in ap (λ (m : ℕ). take m (drop 6 lent.now)) (sym n) ∙ w.name_is;
        ended = w.end;
        long = sym w.size ∙ omega arith;
      }

  by_length : (t : Bool) → ltb 65535 (length name) ≡ t → Written count has_next name
  by_length true e = name_too_long (ltb-true 65535 (length name) e) (writes.refused count has_next name (simp e))
  by_length false e =
      let h = ltb-false 65535 (length name) e in
      written h lent.now (writes.passes count has_next name {u = tt} (simp e)) (is_laid h)

-- a block behind its count
module _ (count : ℕ) (block : Bor (List ℕ)) where
  by_size : ltb 65535 count ≡ false → block_checked count block ≡ Ok tt → (t : Bool) → ltb limit (length (bytes2 count ++ block.now)) ≡ t → Entries count block
  unfolding entry_checked
  by_size e p true f =
      let l = ltb-true limit (length (bytes2 count ++ block.now)) f in
      too_large (ltb-false 65535 count e) p (omega arith) (writes.both_pass count block {u = tt} {v = tt} (simp e) p ∙ simp f (ap (λ (k : ℕ). Err (TooLarge k)) (omega arith)))
  by_size e p false f =
      let l = ltb-false limit (length (bytes2 count ++ block.now)) f in
      entries (ltb-false 65535 count e) p (omega arith) (bytes2 count ++ block.now) (writes.both_pass count block {u = tt} {v = tt} (simp e) p ∙ simp f)
      (let k = ltb-false 65535 count e in le2_bytes2 count block.now (omega arith)) refl

  by_block : ltb 65535 count ≡ false → BlockMeant count block → Entries count block
  by_block e (passes g p) = by_size e p (ltb limit (length (bytes2 count ++ block.now))) refl
  by_block e (longer at g l p) = bad (ltb-false 65535 count e) count p (writes.block_refused count block {u = tt} (simp e) p)
  by_block e (fewer at good left k g not p) = bad (ltb-false 65535 count e) good p (writes.block_refused count block {u = tt} (simp e) p)

  by_count : (t : Bool) → ltb 65535 count ≡ t → Entries count block
  by_count true e = too_many (ltb-true 65535 count e) (writes.count_refused count block (simp e))
  by_count false e = by_block e (block_meant count block)

pub refactors_refused : RefactorsRefused
refactors_refused = record {
  block = block_meant;
  writing = λ count has_next name. by_length count has_next name (ltb 65535 (length name)) refl;
  entries = λ count block. by_count count block (ltb 65535 count) refl;
}

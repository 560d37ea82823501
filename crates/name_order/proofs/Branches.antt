-- Those of some starts in order at which a name begins with a text stand together.
use Rattle.std.specs.Char.{to_ascii_lowercase}
use Rattle.std.proofs.Common.{ℕ, zero, suc, ◌-◌, ◌+◌, ◌<◌, ◌≤◌, ◌≡◌, refl, sym, ap, subst, ◌∙◌, Bool, true, false, List, [], ◌∷◌, ◌++◌, length, take, drop, get_or, arith}
use Rattle.std.specs.declared.cmp.Ordering.{Ordering}
use Rattle.std.specs.declared.cmp.Ordering.TheVariants.{Less, Equal, Greater}
use Rattle.std.specs.Ordering.{nat_cmp, ordering_then, ordering_reverse, is_lt, is_le}
use Rattle.std.specs.Cmp.{IsTotalOrder}
use Rattle.std.specs.List.Sorted.{IsSortedBy, IsPartitionedBy, IsPartitionPoint}
use Rattle.std.proofs.lemmas.List.{get_or-take, get_or-drop, take-append-drop}
use Rattle.std.proofs.lemmas.List.Sorted.{sorted_far}
use Rattle.std.proofs.Math.ListN.{length-take, length-drop}
use Rattle.le.specs.Le.{part}
use Rattle.le.proofs.Laws.{not_both, part_rest}
use Rattle.names.specs.Names.{folded}
use Rattle.name_order.specs.declared.places.NamePlaces.{NamePlaces}
use Rattle.name_order.specs.Order.{name_at, name_cmp, goes_first}
use Rattle.name_order.specs.Branch.{begins_at, front_cmp, is_before, is_no_further, IsRun, IsBranch}
use Rattle.name_order.proofs.Order.{names_total, places_weak, names_follow, before_through}
use Rattle.name_order.proofs.Meaning.{cmp_same, same_cmp}

-- names that are cut to one length are in the order of the names
cut_falls : (n : ℕ) (a b : List ℕ) → name_cmp (take n a) (take n b) ≡ Less → name_cmp a b ≡ Less
unfolding name_cmp folded
cut_falls zero a b h = absurd (not_both refl (sym (ap is_lt h)))
cut_falls (suc n) [] [] h = h
cut_falls (suc n) [] (y ∷ b) h = refl
cut_falls (suc n) (x ∷ a) [] h = h
cut_falls (suc n) (x ∷ a) (y ∷ b) h = by (cut_falls n a b) (nat_cmp (to_ascii_lowercase x) (to_ascii_lowercase y)) h
  where
    by : (name_cmp (take n a) (take n b) ≡ Less → name_cmp a b ≡ Less) → (r : Ordering) → ordering_then r (name_cmp (take n a) (take n b)) ≡ Less → ordering_then r (name_cmp a b) ≡ Less
    by on Less k = refl
    by on Equal k = on k
    by on Greater k = k

cut_keeps : (n : ℕ) (a b : List ℕ) → is_lt (name_cmp a b) ≡ false → is_lt (name_cmp (take n a) (take n b)) ≡ false
cut_keeps n a b h = by (name_cmp (take n a) (take n b)) refl
  where
    by : (r : Ordering) → name_cmp (take n a) (take n b) ≡ r → is_lt r ≡ false
    by Less e = absurd (not_both (ap is_lt (cut_falls n a b e)) h)
    by Equal e = refl
    by Greater e = refl

-- of two values in order, where the later goes not behind a third the earlier does not
module _ {K : Type 0} {R : K → K → Ordering} (o : IsTotalOrder R) where
  pub no_further_through : (x y z : K) → is_lt (R y x) ≡ false → is_le (R y z) ≡ true → is_le (R x z) ≡ true
  no_further_through x y z h k = by (R x z) refl
    where
      falls : R z x ≡ Less → (r : Ordering) → R y z ≡ r → is_le r ≡ true → is_lt (R y x) ≡ true
      falls f Less e m = ap is_lt (o.trans y z x e f)
      falls f Equal e m = ap is_lt (o.congr y z x e ∙ f)
      falls f Greater e m = absurd (not_both m refl)

      by : (r : Ordering) → R x z ≡ r → is_le r ≡ true
      by Less e = refl
      by Equal e = refl
      by Greater e = absurd (not_both (falls (o.antisymm z x ∙ ap ordering_reverse e) (R y z) refl k) h)

sorted_drop : (first : ℕ → ℕ → Bool) (k : ℕ) (xs : List ℕ) → IsSortedBy first xs → IsSortedBy first (drop k xs)
sorted_drop first k xs up i d l h =
    let e : k + i + 1 ≡ k + (i + 1) = omega arith in
    rw (get_or-drop k xs (i + 1) d, get_or-drop k xs i d) (subst (λ (n : ℕ). first (get_or xs n d) (get_or xs (k + i) d) ≡ false) e (up (k + i) d (omega arith) (omega (arith, h, length-drop k xs))))

module _ (w : NamePlaces) (s text : List ℕ) where
  pub before_parted : (starts : List ℕ) → IsSortedBy (goes_first w s) starts → IsPartitionedBy (is_before w s text) starts
  unfolding front_cmp
  before_parted starts up i j d h k p =
      let a : ℕ = get_or starts i d in
      let b : ℕ = get_or starts j d in
      before_through names_total (take (length text) (name_at w s a)) (take (length text) (name_at w s b)) text (cut_keeps (length text) (name_at w s b) (name_at w s a) (names_follow w s a b (sorted_far (goes_first w s) (places_weak w s) starts up i j d h k))) p

  pub no_further_parted : (starts : List ℕ) → IsSortedBy (goes_first w s) starts → IsPartitionedBy (is_no_further w s text) starts
  unfolding front_cmp
  no_further_parted starts up i j d h k p =
      let a : ℕ = get_or starts i d in
      let b : ℕ = get_or starts j d in
      no_further_through names_total (take (length text) (name_at w s a)) (take (length text) (name_at w s b)) text (cut_keeps (length text) (name_at w s b) (name_at w s a) (names_follow w s a b (sorted_far (goes_first w s) (places_weak w s) starts up i j d h k))) p

  -- before, among and behind those that begin so
  begins_not : (at : ℕ) → (front_cmp text (name_at w s at) ≡ Equal → ⊥) → begins_at w s text at ≡ false
  unfolding front_cmp
  begins_not at n = by (begins_at w s text at) refl
    where
      by : (t : Bool) → begins_at w s text at ≡ t → t ≡ false
      by true e = absurd (n (same_cmp (take (length text) (name_at w s at)) text e))
      by false e = refl

  before_not : (at : ℕ) → is_before w s text at ≡ true → begins_at w s text at ≡ false
  before_not at h = begins_not at (λ e. not_both h (ap is_lt e))

  behind_not : (at : ℕ) → is_no_further w s text at ≡ false → begins_at w s text at ≡ false
  behind_not at h = begins_not at (λ e. not_both (ap is_le e) h)

  among : (at : ℕ) → is_before w s text at ≡ false → is_no_further w s text at ≡ true → begins_at w s text at ≡ true
  unfolding front_cmp
  among at h k = cmp_same (take (length text) (name_at w s at)) text (by (name_cmp (take (length text) (name_at w s at)) text) h k)
    where
      by : (r : Ordering) → is_lt r ≡ false → is_le r ≡ true → r ≡ Equal
      by Less p q = absurd (not_both refl p)
      by Equal p q = refl
      by Greater p q = absurd (not_both q refl)

  pub branch_of : (starts : List ℕ) (k n : ℕ) → k ≤ length starts → n ≤ length (drop k starts)
      → IsPartitionPoint (λ at. is_before w s text at ≡ true) (λ at. is_before w s text at ≡ false) starts k
      → IsPartitionPoint (λ at. is_no_further w s text at ≡ true) (λ at. is_no_further w s text at ≡ false) (drop k starts) n
      → IsBranch (begins_at w s text) starts (take n (drop k starts))
  branch_of starts k n f g p q = record {
    before = take k starts;
    behind = drop n (drop k starts);
    is = sym (ap (λ (l : List ℕ). take k starts ++ l) (take-append-drop n (drop k starts)) ∙ take-append-drop k starts);
    none_before = λ i d h. let l : i < k = omega (arith, h, length-take k starts) in ap (begins_at w s text) (get_or-take k starts i d l) ∙ before_not (get_or starts i d) (p.0 i d (omega arith) l);
    each = λ i d h.
        let l : i < n = omega (arith, h, length-take n (drop k starts)) in
        let e : get_or (take n (drop k starts)) i d ≡ get_or (drop k starts) i d = get_or-take n (drop k starts) i d l in
        let b = p.1 (k + i) d (omega arith) (omega (arith, l, g, length-drop k starts)) in
        ap (begins_at w s text) e ∙ among (get_or (drop k starts) i d) (ap (is_before w s text) (get_or-drop k starts i d) ∙ b) (q.0 i d (omega arith) l);
    none_behind = λ i d h. ap (begins_at w s text) (get_or-drop n (drop k starts) i d) ∙ behind_not (get_or (drop k starts) (n + i) d) (q.1 (n + i) d (omega arith) (omega (arith, h, length-drop n (drop k starts))));
  }

  -- the same, of what is left in another spelling
  pub branch_at : (starts rest : List ℕ) (k n : ℕ) → rest ≡ drop k starts → k ≤ length starts → n ≤ length rest
      → (IsSortedBy (goes_first w s) starts → IsPartitionPoint (λ at. is_before w s text at ≡ true) (λ at. is_before w s text at ≡ false) starts k)
      → (IsSortedBy (goes_first w s) rest → IsPartitionPoint (λ at. is_no_further w s text at ≡ true) (λ at. is_no_further w s text at ≡ false) rest n)
      → IsSortedBy (goes_first w s) starts → IsBranch (begins_at w s text) starts (take n rest)
  branch_at starts rest k n e f g p q up =
      let r = q (subst (IsSortedBy (goes_first w s)) (sym e) (sorted_drop (goes_first w s) k starts up)) in
      subst (λ (l : List ℕ). IsBranch (begins_at w s text) starts (take n l)) (sym e)
      (branch_of starts k n f (omega (arith, g, ap length e)) (p up) (subst (λ (l : List ℕ). IsPartitionPoint (λ at. is_no_further w s text at ≡ true) (λ at. is_no_further w s text at ≡ false) l n) e r))

-- what is left of some numbers is all that is left
pub rest_is : (starts : List ℕ) (k : ℕ) → take (length starts - k) (drop k starts) ≡ drop k starts
unfolding part
rest_is starts k = part_rest starts k (length starts - k) (omega arith)

pub run_of : (starts rest : List ℕ) (k n : ℕ) → rest ≡ drop k starts → IsRun starts (take n rest)
run_of starts rest k n e = record {
  before = take k starts;
  behind = drop n rest;
  is = sym (ap (λ (l : List ℕ). take k starts ++ l) (take-append-drop n rest ∙ e) ∙ take-append-drop k starts);
}

-- where a test passes up to some number and from there on fails
parted : (test : ℕ → Bool) (xs : List ℕ) → IsPartitionedBy test xs → (k : ℕ) × ((k ≤ length xs) × IsPartitionPoint (λ x. test x ≡ true) (λ x. test x ≡ false) xs k)
parted test [] h = (0, (omega arith, (λ i d l m. absurd (omega arith), λ i d l m. absurd (omega arith))))
parted test (x ∷ xs) h = by (test x) refl (parted test xs (λ i j d l m p. h (suc i) (suc j) d (omega arith) (omega arith) p))
  where
    passes : test x ≡ true → (k : ℕ) → IsPartitionPoint (λ y. test y ≡ true) (λ y. test y ≡ false) xs k → (i d : ℕ) → i < suc k → test (get_or (x ∷ xs) i d) ≡ true
    passes e k p zero d m = e
    passes e k p (suc i) d m = p.0 i d (omega arith) (omega arith)

    fails : (k : ℕ) → IsPartitionPoint (λ y. test y ≡ true) (λ y. test y ≡ false) xs k → (i d : ℕ) → suc k ≤ i → i < length (x ∷ xs) → test (get_or (x ∷ xs) i d) ≡ false
    fails k p zero d l m = absurd (omega arith)
    fails k p (suc i) d l m = p.1 i d (omega arith) (omega arith)

    none_passes : test x ≡ false → (i d : ℕ) → i < length (x ∷ xs) → (t : Bool) → test (get_or (x ∷ xs) i d) ≡ t → t ≡ false
    none_passes e i d m true q = absurd (not_both (h 0 i d (omega arith) m q) e)
    none_passes e i d m false q = refl

    by : (t : Bool) → test x ≡ t → (k : ℕ) × ((k ≤ length xs) × IsPartitionPoint (λ y. test y ≡ true) (λ y. test y ≡ false) xs k) → (k : ℕ) × ((k ≤ length (x ∷ xs)) × IsPartitionPoint (λ y. test y ≡ true) (λ y. test y ≡ false) (x ∷ xs) k)
    by true e r = (suc r.0, (omega (arith, r.1.0), (λ i d l m. passes e r.0 r.1.1 i d m, λ i d l m. fails r.0 r.1.1 i d l m)))
    by false e r = (0, (omega arith, (λ i d l m. absurd (omega arith), λ i d l m. none_passes e i d m (test (get_or (x ∷ xs) i d)) refl)))

-- some starts in order have the branch of a text as a run
pub sorted_branch : (w : NamePlaces) (s text starts : List ℕ) → IsSortedBy (goes_first w s) starts → (run : List ℕ) × IsBranch (begins_at w s text) starts run
sorted_branch w s text starts up =
    let p = parted (is_before w s text) starts (before_parted w s text starts up) in
    let q = parted (is_no_further w s text) (drop p.0 starts) (no_further_parted w s text (drop p.0 starts) (sorted_drop (goes_first w s) p.0 starts up)) in
    (take q.0 (drop p.0 starts), branch_of w s text starts p.0 q.0 p.1.0 q.1.0 p.1.1 q.1.1)

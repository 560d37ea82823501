-- What every joining keeps: how long the lists are, that partners name each other, and that they are one entry.
use Rattle.std.proofs.Common.{ℕ, zero, suc, ◌+◌, ◌≡◌, ◌≢◌, ◌⊎◌, inl, inr, refl, sym, ap, subst, ◌∙◌, Bool, true, false, ◌&&◌, List, [], ◌∷◌, length, drop}
use Rattle.std.specs.Prelude.{Option, Some, None, slice_get, slice_set, replicate, if◌then◌else◌}
use Rattle.std.specs.Ordering.{is_le, is_ge, is_eq}
use Rattle.std.proofs.Math.ListN.{length-set, length-replicate}
use Rattle.pairing.specs.declared.pieces.Piece.{Piece}
use Rattle.pairing.specs.declared.pairs.Rule.{Rule}
use Rattle.pairing.specs.declared.pairs.Rule.TheVariants.{NameAndPlace, Name, Place}
use Rattle.pairing.specs.Pairs.{Partners, nobody, partnered, are_free, joined, joined_if, order_at, fits_at, behind_first, matched, by_rule, as_long_at, beside, neighbours, partners_of}
use Rattle.pairing.proofs.Lists.{drop_step, drop_next, set_same, set_other, set_either}

module _ (P : Partners → Type 0) (ps qs : List Piece) (r : Rule)
    (step : (i j : ℕ) (p : Partners) → (is_eq (order_at r (slice_get ps i) (slice_get qs j)) && fits_at r (slice_get ps i) (slice_get qs j)) ≡ true → P p → P (joined i j p)) where
  one_kept : (b : Bool) (i j : ℕ) (p : Partners) → ((b ≡ true) → P p → P (joined i j p)) → P p → P (joined_if b i j p)
  one_kept true i j p o h = o refl h
  one_kept false i j p o h = h

  pub matched_by : (n : ℕ) (xs ys : List ℕ) (p : Partners) → P p → P (matched r ps qs n xs ys p)
  unfolding matched
  matched_by zero xs ys p h = h
  matched_by (suc n) [] ys p h = h
  matched_by (suc n) (x ∷ xs) [] p h = h
  matched_by (suc n) (x ∷ xs) (y ∷ ys) p h =
      matched_by n (behind_first (is_le (order_at r (slice_get ps x) (slice_get qs y))) (x ∷ xs)) (behind_first (is_ge (order_at r (slice_get ps x) (slice_get qs y))) (y ∷ ys)) _
      (one_kept (is_eq (order_at r (slice_get ps x) (slice_get qs y)) && fits_at r (slice_get ps x) (slice_get qs y)) x y p (step x y p) h)

  pub rule_by : (p : Partners) → P p → P (by_rule r ps qs p)
  unfolding by_rule
  rule_by p h = matched_by _ _ _ p h

module _ (P : Partners → Type 0) (ps qs : List Piece) (AreOne : ℕ → ℕ → Type 0)
    (step : (i j : ℕ) (p : Partners) → AreOne i j → P p → P (joined i j p))
    (ruled : (r : Rule) (i j : ℕ) → (is_eq (order_at r (slice_get ps i) (slice_get qs j)) && fits_at r (slice_get ps i) (slice_get qs j)) ≡ true → AreOne i j)
    (near : (x : Piece) (i j : ℕ) → slice_get ps i ≡ Some x → as_long_at x (slice_get qs j) ≡ true → AreOne i j) where
  if_kept : (b : Bool) (i j : ℕ) (p : Partners) → (b ≡ true → AreOne i j) → P p → P (joined_if b i j p)
  if_kept true i j p o h = step i j p (o refl) h
  if_kept false i j p o h = h

  pub matched_kept : (r : Rule) (n : ℕ) (xs ys : List ℕ) (p : Partners) → P p → P (matched r ps qs n xs ys p)
  matched_kept r n xs ys p h = matched_by P ps qs r (λ i j q e k. step i j q (ruled r i j e) k) n xs ys p h

  pub rule_kept : (r : Rule) (p : Partners) → P p → P (by_rule r ps qs p)
  rule_kept r p h = rule_by P ps qs r (λ i j q e k. step i j q (ruled r i j e) k) p h

  beside_kept : (x : Piece) (i : ℕ) (next : Option ℕ) (p : Partners) → slice_get ps i ≡ Some x → P p → P (beside x qs i next p)
  unfolding beside
  beside_kept x i None p e h = h
  beside_kept x i (Some j) p e h = if_kept (as_long_at x (slice_get qs j)) i j p (near x i j e) h

  pub near_kept : (xs : List Piece) (i : ℕ) (next : Option ℕ) (p : Partners) → drop i ps ≡ xs → P p → P (neighbours qs xs i next p)
  unfolding neighbours
  near_kept [] i next p e h = h
  near_kept (x ∷ xs) i next p e h = near_kept xs (i + 1) _ (beside x qs i next p) (drop_next i ps e) (beside_kept x i next p (drop_step i ps e).0 h)

  pub all_kept : P (nobody ps qs) → P (partners_of ps qs)
  unfolding partners_of
  all_kept h = near_kept ps 0 None _ refl (rule_kept _ _ (rule_kept _ _ (rule_kept _ _ h)))

-- two of which neither has a partner
pub both_free : (o q : Option (Option ℕ)) → are_free o q ≡ true → (o ≡ Some None) × (q ≡ Some None)
both_free None q h = cc
both_free (Some (Some j)) q h = cc
both_free (Some None) None h = cc
both_free (Some None) (Some (Some i)) h = cc
both_free (Some None) (Some None) h = (refl, refl)

pub joined_kept : (P : Partners → Type 0) (i j : ℕ) (p : Partners) → (slice_get p.of_a i ≡ Some None → slice_get p.of_b j ≡ Some None → P (partnered i j p)) → P p → P (joined i j p)
unfolding joined
joined_kept P i j p f h = by (are_free (slice_get p.of_a i) (slice_get p.of_b j)) refl
  where
    by : (b : Bool) → are_free (slice_get p.of_a i) (slice_get p.of_b j) ≡ b → P (if b then partnered i j p else p)
    by true e = let free = both_free _ _ e in f free.0 free.1
    by false e = h

-- partners name each other
abbrev pub Names : List (Option ℕ) → List (Option ℕ) → Type 0
Names xs ys = (k l : ℕ) → slice_get xs k ≡ Some (Some l) → slice_get ys l ≡ Some (Some k)

names_more : (xs ys : List (Option ℕ)) (i j : ℕ) → slice_get xs i ≡ Some None → slice_get ys j ≡ Some None → Names xs ys → Names (slice_set xs i (Some j)) (slice_set ys j (Some i))
names_more xs ys i j a b n k l h = by (set_either xs i k (Some j) (Some l) h)
  where
    by : ((k ≡ i) × (Some j ≡ Some l)) ⊎ (slice_get xs k ≡ Some (Some l)) → slice_get (slice_set ys j (Some i)) l ≡ Some (Some k)
    by (inl e) =
        let same : j ≡ l = let s = e.1 in cc in
        subst (λ (m : ℕ). slice_get (slice_set ys j (Some i)) m ≡ Some (Some k)) same (set_same ys j (Some i) b ∙ ap (λ (m : ℕ). Some (Some m)) (sym e.0))
    by (inr g) =
        let there : slice_get ys l ≡ Some (Some k) = n k l g in
        let other : l ≢ j = λ e. (let x : slice_get ys l ≡ slice_get ys j = ap (slice_get ys) e in cc) in
        set_other ys j l (Some i) other ∙ there

pub record Mutual (m n : ℕ) (p : Partners) : Type 0 where
  pub there : (k l : ℕ) → slice_get p.of_a k ≡ Some (Some l) → slice_get p.of_b l ≡ Some (Some k)
  pub back : (l k : ℕ) → slice_get p.of_b l ≡ Some (Some k) → slice_get p.of_a k ≡ Some (Some l)
  pub long_a : length p.of_a ≡ m
  pub long_b : length p.of_b ≡ n

pub mutual_more : (m n i j : ℕ) (p : Partners) → Mutual m n p → Mutual m n (joined i j p)
mutual_more m n i j p h = joined_kept (Mutual m n) i j p (λ a b. record {
  there = names_more p.of_a p.of_b i j a b h.there;
  back = names_more p.of_b p.of_a j i b a h.back;
  long_a = length-set p.of_a i (Some j) ∙ h.long_a;
  long_b = length-set p.of_b j (Some i) ∙ h.long_b;
}) h

pub nobody_there : (n k l : ℕ) → slice_get (replicate n None) k ≡ Some (Some l) → ⊥
nobody_there zero k l e = cc
nobody_there (suc n) zero l e = cc
nobody_there (suc n) (suc k) l e = nobody_there n k l e

pub mutual_none : (ps qs : List Piece) → Mutual (length ps) (length qs) (nobody ps qs)
mutual_none ps qs = record {
  there = λ k l e. absurd (nobody_there _ k l e);
  back = λ l k e. absurd (nobody_there _ l k e);
  long_a = length-replicate _ _;
  long_b = length-replicate _ _;
}

pub both_ways : (ps qs : List Piece) → Mutual (length ps) (length qs) (partners_of ps qs)
both_ways ps qs = all_kept (Mutual (length ps) (length qs)) ps qs (λ i j. Unit {0}) (λ i j p o h. mutual_more _ _ i j p h) (λ r i j e. tt) (λ x i j e f. tt) (mutual_none ps qs)

pub rule_mutual : (ps qs : List Piece) (r : Rule) (p : Partners) → Mutual (length ps) (length qs) p → Mutual (length ps) (length qs) (by_rule r ps qs p)
rule_mutual ps qs r p h = rule_kept (Mutual (length ps) (length qs)) ps qs (λ i j. Unit {0}) (λ i j p o h. mutual_more _ _ i j p h) (λ r i j e. tt) (λ x i j e f. tt) r p h

-- what has a partner keeps it
module _ (ps qs : List Piece) where
  unfoldable pub Keeps : Partners → Partners → Type 0
  Keeps q p = (k l : ℕ) → slice_get q.of_a k ≡ Some (Some l) → slice_get p.of_a k ≡ Some (Some l)

  pub keeps_more : (q : Partners) (i j : ℕ) (p : Partners) → Unit {0} → Keeps q p → Keeps q (joined i j p)
  unfolding Keeps
  keeps_more q i j p o h =
      joined_kept (Keeps q) i j p (λ a b k l e. (let was = h k l e in let other : k ≢ i = λ s. (let x : slice_get p.of_a k ≡ slice_get p.of_a i = ap (slice_get p.of_a) s in cc) in set_other p.of_a i k (Some j) other ∙ was)) h

  pub matched_keeps : (q : Partners) (r : Rule) (n : ℕ) (xs ys : List ℕ) (p : Partners) → Keeps q p → Keeps q (matched r ps qs n xs ys p)
  matched_keeps q r n xs ys p h = matched_kept (Keeps q) ps qs (λ i j. Unit {0}) (keeps_more q) (λ r i j e. tt) (λ x i j e f. tt) r n xs ys p h

  pub rule_keeps : (q : Partners) (r : Rule) (p : Partners) → Keeps q p → Keeps q (by_rule r ps qs p)
  rule_keeps q r p h = rule_kept (Keeps q) ps qs (λ i j. Unit {0}) (keeps_more q) (λ r i j e. tt) (λ x i j e f. tt) r p h

  pub near_keeps : (q : Partners) (p : Partners) → Keeps q p → Keeps q (neighbours qs ps 0 None p)
  near_keeps q p h = near_kept (Keeps q) ps qs (λ i j. Unit {0}) (keeps_more q) (λ r i j e. tt) (λ x i j e f. tt) ps 0 None p refl h

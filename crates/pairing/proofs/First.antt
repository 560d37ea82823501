-- By name: of several of one name the first goes with the first, and the second with the second.
use Rattle.std.proofs.Common.{ℕ, zero, suc, ◌+◌, ◌<◌, ◌≤◌, ◌≡◌, ◌≢◌, ◌⊎◌, inl, inr, refl, sym, ap, subst, ◌∙◌, Bool, true, false, ◌&&◌, List, [], ◌∷◌, length, arith}
use Rattle.std.specs.Prelude.{Option, Some, None, slice_get}
use Rattle.std.specs.Ordering.{nat_cmp, ordering_then, is_lt, is_le, is_ge, is_eq}
use Rattle.std.specs.declared.cmp.Ordering.{Ordering}
use Rattle.std.specs.declared.cmp.Ordering.TheVariants.{Less, Equal, Greater}
use Rattle.std.proofs.lemmas.Cmp.{ranked, alike_right, tied_back}
use Rattle.std.proofs.lemmas.List.Sums.{sum_by-cons}
use Rattle.std.proofs.lemmas.Option.{slice_get_within}
use Rattle.name_order.proofs.Sorted.{mark, tally, marked, Rises, more, Lowest, lowest_tally}
use Rattle.pairing.specs.declared.pieces.Piece.{Piece}
use Rattle.pairing.specs.declared.pairs.Rule.TheVariants.{NameAndPlace, Name}
use Rattle.pairing.specs.Pairs.{Partners, partnered, joined, joined_if, number_order, fits_at, behind_first, matched, nobody, by_rule}
use Rattle.pairing.proofs.Orders.{order_total, number_weak}
use Rattle.pairing.proofs.Lists.{set_same, set_either}
use Rattle.pairing.proofs.Kept.{joined_kept, Mutual, mutual_more, mutual_none, rule_mutual, Keeps, matched_keeps}
use Rattle.pairing.proofs.Apart.{R, below, above, Ready, ready_rest, ready_set, ready_first, among, joins, fit_there, sorted, sorted_order, sorted_ready, sorted_all, by_names}

-- one name before another, in three
pub equal_through : (a b c : Option Piece) → R a b ≡ Equal → R b c ≡ Equal → R a c ≡ Equal
equal_through a b c e f = sym (alike_right (order_total Name) b c a f) ∙ e

-- numbers in order: by name, and those of one name by number
abbrev InOrder : List Piece → List ℕ → Type 0
InOrder all xs = Rises (λ i j. is_lt (number_order all i j)) xs

first_number : (all : List Piece) (x v : ℕ) (xs : List ℕ) → Lowest (λ i j. is_lt (number_order all i j)) x xs → 0 < tally v xs → R (slice_get all v) (slice_get all x) ≡ Equal → x ≤ v
unfolding number_order
first_number all x v xs l h e = by (nat_cmp v x) refl ((λ k. is_lt (ordering_then (sym e k) (nat_cmp v x))) ∙ lowest_tally (λ i j. is_lt (number_order all i j)) (number_weak all) x v xs l h)
  where
    by : (r : Ordering) → r ≡ nat_cmp v x → is_lt (ordering_then Equal (nat_cmp v x)) ≡ false → x ≤ v
    by Less g h = let z : is_lt Less ≡ false = ap is_lt g ∙ h in cc
    by Equal g h = let s = ranked v x Equal g in omega (arith, s)
    by Greater g h = let s = ranked v x Greater g in omega (arith, s)

not_lower : (all : List Piece) (x v : ℕ) (xs : List ℕ) → Lowest (λ i j. is_lt (number_order all i j)) x xs → 0 < tally v xs → is_lt (R (slice_get all v) (slice_get all x)) ≡ false
unfolding number_order
not_lower all x v xs l h = by (R (slice_get all v) (slice_get all x)) (lowest_tally (λ i j. is_lt (number_order all i j)) (number_weak all) x v xs l h)
  where
    by : (r : Ordering) → is_lt (ordering_then r (nat_cmp v x)) ≡ false → is_lt r ≡ false
    by Less h = cc
    by Equal h = refl
    by Greater h = refl

-- the first of a list stands in it once
gone : (all : List Piece) (part : List (Option ℕ)) (x v : ℕ) (xs : List ℕ) → Ready all part (x ∷ xs) → 0 < tally v xs → v ≢ x
gone all part x v xs r h e = let m : mark v x ≡ 1 = ap (mark v) (sym e) ∙ marked v in omega (arith, h, r.once v, sum_by-cons (mark v) x xs, m)

-- one of A that goes with an earlier one of B, and one of B with an earlier one of A
pub record Found (k j : ℕ) (q : Partners) : Type 0 where
  pub it : ℕ
  pub is : slice_get q.of_a k ≡ Some (Some it)
  pub before : it < j

pub record FoundB (l i : ℕ) (q : Partners) : Type 0 where
  pub it : ℕ
  pub is : slice_get q.of_a it ≡ Some (Some l)
  pub before : it < i

module _ (ps qs : List Piece) where
  abbrev after : ℕ → List ℕ → List ℕ → Partners → Partners
  after n xs ys p = matched Name ps qs n xs ys p

  -- who has a partner afterwards had it, or both stand in the lists
  record Gained (i j : ℕ) (xs ys : List ℕ) : Type 0 where
    ours : 0 < tally i xs
    theirs : 0 < tally j ys
    alike : R (slice_get ps i) (slice_get qs j) ≡ Equal

  more_tally : (v x : ℕ) (xs : List ℕ) → 0 < tally v xs → 0 < tally v (x ∷ xs)
  more_tally v x xs h = omega (arith, h, sum_by-cons (mark v) x xs)

  first_tally : (x : ℕ) (xs : List ℕ) → 0 < tally x (x ∷ xs)
  first_tally x xs = omega (arith, sum_by-cons (mark x) x xs, marked x)

  joined_before : (i j x y : ℕ) (p : Partners) → slice_get (joined x y p).of_a i ≡ Some (Some j) → ((i ≡ x) × (j ≡ y)) ⊎ (slice_get p.of_a i ≡ Some (Some j))
  joined_before i j x y p = joined_kept (λ q. slice_get q.of_a i ≡ Some (Some j) → ((i ≡ x) × (j ≡ y)) ⊎ (slice_get p.of_a i ≡ Some (Some j))) x y p
      (λ a b f. elim (set_either p.of_a x i (Some y) (Some j) f) [ inl o ↦ inl (o.0, (let t = o.1 in cc)) | inr g ↦ inr g ]) (λ f. inr f)

  gained : (i j n : ℕ) (xs ys : List ℕ) (p : Partners) → slice_get (after n xs ys p).of_a i ≡ Some (Some j) → (slice_get p.of_a i ≡ Some (Some j)) ⊎ Gained i j xs ys
  unfolding matched
  gained i j zero xs ys p e = inl e
  gained i j (suc n) [] ys p e = inl e
  gained i j (suc n) (x ∷ xs) [] p e = inl e
  gained i j (suc n) (x ∷ xs) (y ∷ ys) p e = by (R (slice_get ps x) (slice_get qs y)) refl e (gained i j n)
    where
      by_fit : (f : Bool) → R (slice_get ps x) (slice_get qs y) ≡ Equal → (slice_get (joined_if f x y p).of_a i ≡ Some (Some j)) ⊎ Gained i j xs ys → (slice_get p.of_a i ≡ Some (Some j)) ⊎ Gained i j (x ∷ xs) (y ∷ ys)
      by_fit f o (inr g) = inr (record { ours = more_tally i x xs g.ours; theirs = more_tally j y ys g.theirs; alike = g.alike })
      by_fit false o (inl e) = inl e
      by_fit true o (inl e) =
          elim (joined_before i j x y p e) [
            | inl s ↦ inr (record {
              ours = subst (λ (z : ℕ). 0 < tally z (x ∷ xs)) (sym s.0) (first_tally x xs);
              theirs = subst (λ (z : ℕ). 0 < tally z (y ∷ ys)) (sym s.1) (first_tally y ys);
              alike = (λ k. R (slice_get ps (s.0 k)) (slice_get qs (s.1 k))) ∙ o;
            })
            | inr g ↦ inl g
          ]

      by : (r : Ordering) → R (slice_get ps x) (slice_get qs y) ≡ r
          → slice_get (after n (behind_first (is_le r) (x ∷ xs)) (behind_first (is_ge r) (y ∷ ys)) (joined_if (is_eq r && fits_at Name (slice_get ps x) (slice_get qs y)) x y p)).of_a i ≡ Some (Some j)
          → ((xs ys : List ℕ) (p : Partners) → slice_get (after n xs ys p).of_a i ≡ Some (Some j) → (slice_get p.of_a i ≡ Some (Some j)) ⊎ Gained i j xs ys)
          → (slice_get p.of_a i ≡ Some (Some j)) ⊎ Gained i j (x ∷ xs) (y ∷ ys)
      by Less o e on = elim (on xs (y ∷ ys) p e) [ inl g ↦ inl g | inr g ↦ inr (record { ours = more_tally i x xs g.ours; theirs = g.theirs; alike = g.alike }) ]
      by Greater o e on = elim (on (x ∷ xs) ys p e) [ inl g ↦ inl g | inr g ↦ inr (record { ours = g.ours; theirs = more_tally j y ys g.theirs; alike = g.alike }) ]
      by Equal o e on = by_fit (fits_at Name (slice_get ps x) (slice_get qs y)) o (on xs ys (joined_if (fits_at Name (slice_get ps x) (slice_get qs y)) x y p) e)

  -- the lists as they are at a turn
  record Turn (xs ys : List ℕ) (p : Partners) : Type 0 where
    order_a : InOrder ps xs
    order_b : InOrder qs ys
    ready_a : Ready ps p.of_a xs
    ready_b : Ready qs p.of_b ys
    two_ways : Mutual (length ps) (length qs) p

  low_of : {first : ℕ → ℕ → Bool} {x : ℕ} {xs : List ℕ} → Rises first (x ∷ xs) → Lowest first x xs
  low_of (more l r) = l

  rest_of : {first : ℕ → ℕ → Bool} {x : ℕ} {xs : List ℕ} → Rises first (x ∷ xs) → Rises first xs
  rest_of (more l r) = r

  less_a : (x : ℕ) (xs ys : List ℕ) (p : Partners) → Turn (x ∷ xs) ys p → Turn xs ys p
  less_a x xs ys p t = record { order_a = rest_of t.order_a; order_b = t.order_b; ready_a = ready_rest ps p.of_a x xs t.ready_a; ready_b = t.ready_b; two_ways = t.two_ways }

  less_b : (y : ℕ) (xs ys : List ℕ) (p : Partners) → Turn xs (y ∷ ys) p → Turn xs ys p
  less_b y xs ys p t = record { order_a = t.order_a; order_b = rest_of t.order_b; ready_a = t.ready_a; ready_b = ready_rest qs p.of_b y ys t.ready_b; two_ways = t.two_ways }

  less_both : (x y : ℕ) (xs ys : List ℕ) (p : Partners) → Turn (x ∷ xs) (y ∷ ys) p → Turn xs ys (partnered x y p)
  less_both x y xs ys p t = record {
    order_a = rest_of t.order_a;
    order_b = rest_of t.order_b;
    ready_a = ready_set ps p.of_a x xs (Some y) t.ready_a;
    ready_b = ready_set qs p.of_b y ys (Some x) t.ready_b;
    two_ways = subst (Mutual (length ps) (length qs)) (joins ps qs x y p (ready_first ps p.of_a x xs t.ready_a) (ready_first qs p.of_b y ys t.ready_b)) (mutual_more (length ps) (length qs) x y p t.two_ways);
  }

  -- one of A in the list gets its partner in what is to come
  comes_a : (i j n : ℕ) (xs ys : List ℕ) (p : Partners) → slice_get p.of_a i ≡ Some None → slice_get (after n xs ys p).of_a i ≡ Some (Some j) → Gained i j xs ys
  comes_a i j n xs ys p f e = elim (gained i j n xs ys p e) [ inl g ↦ absurd (let z = g in let w = f in cc) | inr g ↦ g ]

  comes_b : (i j n : ℕ) (xs ys : List ℕ) (p : Partners) → Mutual (length ps) (length qs) p → slice_get p.of_b j ≡ Some None → slice_get (after n xs ys p).of_a i ≡ Some (Some j) → Gained i j xs ys
  comes_b i j n xs ys p m f e = elim (gained i j n xs ys p e) [ inl g ↦ absurd (let z = m.there i j g in let w = f in cc) | inr g ↦ g ]

  -- what happens to the first two of the lists where they stand alike
  join_now : (x y : ℕ) (xs ys : List ℕ) (p : Partners) → Turn (x ∷ xs) (y ∷ ys) p → joined_if (fits_at Name (slice_get ps x) (slice_get qs y)) x y p ≡ partnered x y p
  join_now x y xs ys p t =
      let f = ready_first ps p.of_a x xs t.ready_a in
      let g = ready_first qs p.of_b y ys t.ready_b in
      let fits : fits_at Name (slice_get ps x) (slice_get qs y) ≡ true = fit_there ps qs x y (omega (arith, slice_get_within p.of_a x None f, t.ready_a.long)) (omega (arith, slice_get_within p.of_b y None g, t.ready_b.long)) in
      ap (λ (b : Bool). joined_if b x y p) fits ∙ joins ps qs x y p f g

  kept_now : (n x y : ℕ) (xs ys : List ℕ) (p : Partners) → slice_get p.of_a x ≡ Some None → slice_get (after n xs ys (partnered x y p)).of_a x ≡ Some (Some y)
  unfolding Keeps
  kept_now n x y xs ys p f = matched_keeps ps qs (partnered x y p) Name n xs ys (partnered x y p) (λ k l e. e) x y (set_same p.of_a x (Some y) f)

  -- an earlier one of A gets an earlier one of B
  module _ (k i j : ℕ) (earlier : k < i) (alike : R (slice_get ps k) (slice_get ps i) ≡ Equal) where
    On : ℕ → Type 0
    On n = (xs ys : List ℕ) (p : Partners) → Turn xs ys p → 0 < tally k xs → 0 < tally i xs → slice_get (after n xs ys p).of_a i ≡ Some (Some j) → Found k j (after n xs ys p)

    module _ (n x y : ℕ) (xs ys : List ℕ) (p : Partners) (on : On n) (t : Turn (x ∷ xs) (y ∷ ys) p) where
      at : (r : Ordering) → R (slice_get ps x) (slice_get qs y) ≡ r → (k ≡ x) ⊎ (0 < tally k xs) → (i ≡ x) ⊎ (0 < tally i xs)
          → slice_get (after n (behind_first (is_le r) (x ∷ xs)) (behind_first (is_ge r) (y ∷ ys)) (joined_if (is_eq r && fits_at Name (slice_get ps x) (slice_get qs y)) x y p)).of_a i ≡ Some (Some j)
          → Found k j (after n (behind_first (is_le r) (x ∷ xs)) (behind_first (is_ge r) (y ∷ ys)) (joined_if (is_eq r && fits_at Name (slice_get ps x) (slice_get qs y)) x y p))
      unfolding On
      at Less o a (inl b) e =
          let free : slice_get p.of_a i ≡ Some None = ap (slice_get p.of_a) b ∙ ready_first ps p.of_a x xs t.ready_a in
          let g = comes_a i j n xs (y ∷ ys) p free e in
          absurd (gone ps p.of_a x i xs t.ready_a g.ours b)
      at Less o (inl a) (inr b) e =
          let free : slice_get p.of_a i ≡ Some None = t.ready_a.free i (more_tally i x xs b) in
          let g = comes_a i j n xs (y ∷ ys) p free e in
          let first : R (slice_get ps x) (slice_get qs j) ≡ Less = elim (among j y ys g.theirs) [ inl s ↦ ap (λ (m : ℕ). R (slice_get ps x) (slice_get qs m)) s ∙ o | inr m ↦ below (slice_get ps x) (slice_get qs y) (slice_get qs j) o (not_lower qs y j ys (low_of t.order_b) m) ] in
          let same : R (slice_get ps x) (slice_get qs j) ≡ Equal = ap (λ (m : ℕ). R (slice_get ps m) (slice_get qs j)) (sym a) ∙ equal_through (slice_get ps k) (slice_get ps i) (slice_get qs j) alike g.alike in
          cc
      at Less o (inr a) (inr b) e = on xs (y ∷ ys) p (less_a x xs (y ∷ ys) p t) a b e
      at Greater o a b e = on (x ∷ xs) ys p (less_b y (x ∷ xs) ys p t) (stands a) (stands b) e
        where
          stands : {v : ℕ} → (v ≡ x) ⊎ (0 < tally v xs) → 0 < tally v (x ∷ xs)
          stands (inl s) = subst (λ (z : ℕ). 0 < tally z (x ∷ xs)) (sym s) (first_tally x xs)
          stands {v} (inr m) = more_tally v x xs m
      at Equal o (inl a) (inl b) e = absurd (omega (arith, earlier, a, b))
      at Equal o (inr a) (inl b) e = absurd (let h = first_number ps x k xs (low_of t.order_a) a (ap (λ (m : ℕ). R (slice_get ps k) (slice_get ps m)) (sym b) ∙ alike) in omega (arith, earlier, b, h))
      at Equal o (inl a) (inr b) e =
          let join = join_now x y xs ys p t in
          let e' : slice_get (after n xs ys (partnered x y p)).of_a i ≡ Some (Some j) = ap (λ (q : Partners). slice_get (after n xs ys q).of_a i) (sym join) ∙ e in
          let free : slice_get (partnered x y p).of_a i ≡ Some None = (ready_set ps p.of_a x xs (Some y) t.ready_a).free i b in
          let g = comes_a i j n xs ys (partnered x y p) free e' in
          let one : R (slice_get ps i) (slice_get qs y) ≡ Equal = equal_through (slice_get ps i) (slice_get ps x) (slice_get qs y) (ap (λ (m : ℕ). R (slice_get ps i) (slice_get ps m)) (sym a) ∙ tied_back (order_total Name) (slice_get ps k) (slice_get ps i) alike) o in
          let two : R (slice_get qs j) (slice_get qs y) ≡ Equal = equal_through (slice_get qs j) (slice_get ps i) (slice_get qs y) (tied_back (order_total Name) (slice_get ps i) (slice_get qs j) g.alike) one in
          let below_it = first_number qs y j ys (low_of t.order_b) g.theirs two in
          let other : j ≢ y = gone qs p.of_b y j ys t.ready_b g.theirs in
          subst (λ (q : Partners). Found k j (after n xs ys q)) (sym join)
          (record { it = y; is = ap (slice_get (after n xs ys (partnered x y p)).of_a) a ∙ kept_now n x y xs ys p (ready_first ps p.of_a x xs t.ready_a); before = omega (arith, below_it, other) })
      at Equal o (inr a) (inr b) e =
          let join = join_now x y xs ys p t in
          subst (λ (q : Partners). Found k j (after n xs ys q)) (sym join) (on xs ys (partnered x y p) (less_both x y xs ys p t) a b (ap (λ (q : Partners). slice_get (after n xs ys q).of_a i) (sym join) ∙ e))

    found : (n : ℕ) → On n
    unfolding On matched
    found n [] ys p t a b e = absurd (omega (arith, a))
    found zero (x ∷ xs) ys p t a b e = absurd (let f = t.ready_a.free i b in cc)
    found (suc n) (x ∷ xs) [] p t a b e = absurd (let f = t.ready_a.free i b in cc)
    found (suc n) (x ∷ xs) (y ∷ ys) p t a b e = at n x y xs ys p (found n) t (R (slice_get ps x) (slice_get qs y)) refl (among k x xs a) (among i x xs b) e

  -- an earlier one of B gets an earlier one of A
  module _ (l i j : ℕ) (earlier : l < j) (alike : R (slice_get qs l) (slice_get qs j) ≡ Equal) where
    OnB : ℕ → Type 0
    OnB n = (xs ys : List ℕ) (p : Partners) → Turn xs ys p → 0 < tally l ys → 0 < tally j ys → slice_get (after n xs ys p).of_a i ≡ Some (Some j) → FoundB l i (after n xs ys p)

    module _ (n x y : ℕ) (xs ys : List ℕ) (p : Partners) (on : OnB n) (t : Turn (x ∷ xs) (y ∷ ys) p) where
      at_b : (r : Ordering) → R (slice_get ps x) (slice_get qs y) ≡ r → (l ≡ y) ⊎ (0 < tally l ys) → (j ≡ y) ⊎ (0 < tally j ys)
          → slice_get (after n (behind_first (is_le r) (x ∷ xs)) (behind_first (is_ge r) (y ∷ ys)) (joined_if (is_eq r && fits_at Name (slice_get ps x) (slice_get qs y)) x y p)).of_a i ≡ Some (Some j)
          → FoundB l i (after n (behind_first (is_le r) (x ∷ xs)) (behind_first (is_ge r) (y ∷ ys)) (joined_if (is_eq r && fits_at Name (slice_get ps x) (slice_get qs y)) x y p))
      unfolding OnB
      at_b Greater o a (inl b) e =
          let free : slice_get p.of_b j ≡ Some None = ap (slice_get p.of_b) b ∙ ready_first qs p.of_b y ys t.ready_b in
          let g = comes_b i j n (x ∷ xs) ys p t.two_ways free e in
          absurd (gone qs p.of_b y j ys t.ready_b g.theirs b)
      at_b Greater o (inl a) (inr b) e =
          let free : slice_get p.of_b j ≡ Some None = t.ready_b.free j (more_tally j y ys b) in
          let g = comes_b i j n (x ∷ xs) ys p t.two_ways free e in
          let first : R (slice_get ps i) (slice_get qs y) ≡ Greater = elim (among i x xs g.ours) [ inl s ↦ ap (λ (m : ℕ). R (slice_get ps m) (slice_get qs y)) s ∙ o | inr m ↦ above (slice_get ps x) (slice_get qs y) (slice_get ps i) o (not_lower ps x i xs (low_of t.order_a) m) ] in
          let same : R (slice_get ps i) (slice_get qs y) ≡ Equal = equal_through (slice_get ps i) (slice_get qs j) (slice_get qs y) g.alike (ap (λ (m : ℕ). R (slice_get qs j) (slice_get qs m)) (sym a) ∙ tied_back (order_total Name) (slice_get qs l) (slice_get qs j) alike) in
          cc
      at_b Greater o (inr a) (inr b) e = on (x ∷ xs) ys p (less_b y (x ∷ xs) ys p t) a b e
      at_b Less o a b e = on xs (y ∷ ys) p (less_a x xs (y ∷ ys) p t) (stands a) (stands b) e
        where
          stands : {v : ℕ} → (v ≡ y) ⊎ (0 < tally v ys) → 0 < tally v (y ∷ ys)
          stands (inl s) = subst (λ (z : ℕ). 0 < tally z (y ∷ ys)) (sym s) (first_tally y ys)
          stands {v} (inr m) = more_tally v y ys m
      at_b Equal o (inl a) (inl b) e = absurd (omega (arith, earlier, a, b))
      at_b Equal o (inr a) (inl b) e = absurd (let h = first_number qs y l ys (low_of t.order_b) a (ap (λ (m : ℕ). R (slice_get qs l) (slice_get qs m)) (sym b) ∙ alike) in omega (arith, earlier, b, h))
      at_b Equal o (inl a) (inr b) e =
          let join = join_now x y xs ys p t in
          let next = less_both x y xs ys p t in
          let e' : slice_get (after n xs ys (partnered x y p)).of_a i ≡ Some (Some j) = ap (λ (q : Partners). slice_get (after n xs ys q).of_a i) (sym join) ∙ e in
          let g = comes_b i j n xs ys (partnered x y p) next.two_ways (next.ready_b.free j b) e' in
          let one : R (slice_get qs y) (slice_get qs j) ≡ Equal = ap (λ (m : ℕ). R (slice_get qs m) (slice_get qs j)) (sym a) ∙ alike in
          let two : R (slice_get ps i) (slice_get ps x) ≡ Equal =
          equal_through (slice_get ps i) (slice_get qs y) (slice_get ps x) (equal_through (slice_get ps i) (slice_get qs j) (slice_get qs y) g.alike (tied_back (order_total Name) (slice_get qs y) (slice_get qs j) one)) (tied_back (order_total Name) (slice_get ps x) (slice_get qs y) o) in
          let below_it = first_number ps x i xs (low_of t.order_a) g.ours two in
          let other : i ≢ x = gone ps p.of_a x i xs t.ready_a g.ours in
          subst (λ (q : Partners). FoundB l i (after n xs ys q)) (sym join) (record {
            it = x;
            is = kept_now n x y xs ys p (ready_first ps p.of_a x xs t.ready_a) ∙ ap (λ (m : ℕ). Some (Some m)) (sym a);
            before = omega (arith, below_it, other);
          })
      at_b Equal o (inr a) (inr b) e =
          let join = join_now x y xs ys p t in
          subst (λ (q : Partners). FoundB l i (after n xs ys q)) (sym join) (on xs ys (partnered x y p) (less_both x y xs ys p t) a b (ap (λ (q : Partners). slice_get (after n xs ys q).of_a i) (sym join) ∙ e))

    found_b : (n : ℕ) → OnB n
    unfolding OnB matched
    found_b n xs [] p t a b e = absurd (omega (arith, a))
    found_b zero xs (y ∷ ys) p t a b e = absurd (let f = t.ready_b.free j b in let g = t.two_ways.there i j e in cc)
    found_b (suc n) [] (y ∷ ys) p t a b e = absurd (let f = t.ready_b.free j b in let g = t.two_ways.there i j e in cc)
    found_b (suc n) (x ∷ xs) (y ∷ ys) p t a b e = at_b n x y xs ys p (found_b n) t (R (slice_get ps x) (slice_get qs y)) refl (among l y ys a) (among j y ys b) e

-- by the second rule, of what the first has left
module _ (ps qs : List Piece) where
  abbrev pub one : Partners
  one = by_rule NameAndPlace ps qs (nobody ps qs)

  pub one_mutual : Mutual (length ps) (length qs) one
  one_mutual = rule_mutual ps qs NameAndPlace (nobody ps qs) (mutual_none ps qs)

  abbrev ours : List ℕ
  ours = sorted ps one.of_a one_mutual.long_a

  abbrev theirs : List ℕ
  theirs = sorted qs one.of_b one_mutual.long_b

  begin : Turn ps qs ours theirs one
  begin = record {
    order_a = sorted_order ps one.of_a one_mutual.long_a;
    order_b = sorted_order qs one.of_b one_mutual.long_b;
    ready_a = sorted_ready ps one.of_a one_mutual.long_a;
    ready_b = sorted_ready qs one.of_b one_mutual.long_b;
    two_ways = one_mutual;
  }

  pub first_of_a : (k i j : ℕ) → k < i → R (slice_get ps k) (slice_get ps i) ≡ Equal → slice_get one.of_a k ≡ Some None → slice_get one.of_a i ≡ Some None → slice_get (by_names ps qs).of_a i ≡ Some (Some j) → Found k j (by_names ps qs)
  unfolding by_rule On
  first_of_a k i j h alike f g e =
      found ps qs k i j h alike (length ours + length theirs) ours theirs one begin (sorted_all ps one.of_a one_mutual.long_a k f) (sorted_all ps one.of_a one_mutual.long_a i g) e

  pub first_of_b : (l i j : ℕ) → l < j → R (slice_get qs l) (slice_get qs j) ≡ Equal → slice_get one.of_b l ≡ Some None → slice_get one.of_b j ≡ Some None → slice_get (by_names ps qs).of_a i ≡ Some (Some j) → FoundB l i (by_names ps qs)
  unfolding by_rule OnB
  first_of_b l i j h alike f g e =
      found_b ps qs l i j h alike (length ours + length theirs) ours theirs one begin (sorted_all qs one.of_b one_mutual.long_b l f) (sorted_all qs one.of_b one_mutual.long_b j g) e

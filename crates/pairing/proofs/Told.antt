-- What is told together is one entry, and no row is empty.
use Rattle.std.proofs.Common.{ℕ, zero, suc, ◌+◌, ◌≡◌, ◌⊎◌, inl, inr, refl, sym, ap, subst, ◌∙◌, Bool, true, false, ◌&&◌, ◌||◌, eqb-true, List, [], ◌∷◌, ◌++◌, length, drop, map, arith, Bor, Result}
use Rattle.std.specs.Prelude.{Option, Some, None, Ok, Err, slice_get, is_err}
use Rattle.std.specs.List.{flat_map, enumerate_from}
use Rattle.std.specs.Ordering.{nat_cmp, is_eq, ordering_then}
use Rattle.std.specs.Cmp.Lexicographic.{slice_cmp, same_text, texts_ties}
use Rattle.std.specs.declared.cmp.Ordering.{Ordering}
use Rattle.std.specs.declared.cmp.Ordering.TheVariants.{Less, Equal, Greater}
use Rattle.std.proofs.lemmas.Cmp.{ranked}
use Rattle.std.proofs.lemmas.Option.{slice_get_within}
use Rattle.names.specs.Names.{folded}
use Rattle.names.specs.Meaning.{SameLetters}
use Rattle.names.proofs.Meaning.{same_by_letters}
use Rattle.name_order.specs.Order.{name_cmp}
use Rattle.name_order.proofs.Meaning.{order_is_total}
use Rattle.refusal.specs.declared.Refusal.{Refusal}
use Rattle.pairing.specs.declared.pieces.Piece.{Piece}
use Rattle.pairing.specs.declared.pairs.Pair.{Pair}
use Rattle.pairing.specs.declared.pairs.Rule.{Rule}
use Rattle.pairing.specs.declared.pairs.Rule.TheVariants.{NameAndPlace, Name, Place}
use Rattle.pairing.specs.declared.rows.Row.{Row}
use Rattle.pairing.specs.Pieces.{known, by_name}
use Rattle.pairing.specs.Pairs.{Partners, nobody, partners_of, joined, order_at, fits, fits_at, as_long, as_long_at, alone, behind, told_one, told, pairs_of}
use Rattle.pairing.specs.Rows.{piece_numbered, row_of, rows_of}
use Rattle.pairing.specs.Told.{IsNamedAlike, named, refused, IsOneEntry, alike, placed, as_long as long_entry, IsRow, AreRows, AreNamed, AreApart, RowsMeant, IsPlacedAlike}
use Rattle.pairing.proofs.Lists.{drop_step, drop_next, set_either, got, got_none}
use Rattle.pairing.proofs.Kept.{all_kept, joined_kept, rule_by, Mutual, mutual_none, rule_mutual, Keeps, rule_keeps, near_keeps, both_ways, nobody_there}
use Rattle.pairing.proofs.Behind.{in_its_place}
use Rattle.pairing.proofs.Once.{ours, theirs}
use Rattle.pairing.proofs.Apart.{by_names, left_apart}

equal_of : (r : Ordering) → is_eq r ≡ true → r ≡ Equal
equal_of Less h = cc
equal_of Equal h = refl
equal_of Greater h = cc

pub both : (a b : Bool) → (a && b) ≡ true → (a ≡ true) × (b ≡ true)
both true b h = (refl, h)
both false b h = cc

either : (a b c : Bool) → (a || b || c) ≡ true → (a ≡ true) ⊎ ((b ≡ true) ⊎ (c ≡ true))
either true b c h = inl refl
either false true c h = inr (inl refl)
either false false c h = inr (inr h)

letters : (own other : List ℕ) → is_eq (slice_cmp nat_cmp (folded own) (folded other)) ≡ true → SameLetters own other
unfolding name_cmp
letters own other h = (same_by_letters own other).0 ((order_is_total.same own other).0 (equal_of (name_cmp own other) h))

same_bytes : (xs ys : List ℕ) → is_eq (slice_cmp nat_cmp xs ys) ≡ true → xs ≡ ys
same_bytes xs ys h = same_text xs ys (sym (texts_ties xs ys ∙ h))

pub named_alike : (p q : Piece) → is_eq (by_name p q) ≡ true → IsNamedAlike p q
unfolding by_name
named_alike p q h = by p.name q.name refl refl h
  where
    by : (n m : Result (Bor (List ℕ)) Refusal) → p.name ≡ n → q.name ≡ m → is_eq (slice_cmp nat_cmp (known n p.bytes.now) (known m q.bytes.now)) ≡ true → IsNamedAlike p q
    by (Ok n) (Ok m) a b h = named a b (letters n.now m.now h)
    by (Err v) (Err w) a b h = refused a b (same_bytes p.bytes.now q.bytes.now h)
    by (Ok n) (Err w) a b h = cc
    by (Err v) (Ok m) a b h = cc

pub one_place : (m n : ℕ) → is_eq (slice_cmp nat_cmp (m ∷ []) (n ∷ [])) ≡ true → m ≡ n
one_place m n h = by (nat_cmp m n) refl h
  where
    by : (r : Ordering) → r ≡ nat_cmp m n → is_eq (ordering_then r Equal) ≡ true → m ≡ n
    by Less e h = cc
    by Equal e h = ranked m n Equal e
    by Greater e h = cc

pub placed_alike : (p q : Piece) → (is_eq (order_at Place (Some p) (Some q)) && fits Place p q) ≡ true → IsPlacedAlike p q
unfolding order_at
placed_alike p q h =
    let w = both (is_eq (order_at Place (Some p) (Some q))) (fits Place p q) h in
    (one_place p.place q.place w.0, elim (either (as_long p q) (is_err p.name) (is_err q.name) w.1) [ inl e ↦ inl (eqb-true _ _ e) | inr e ↦ inr e ])

one_of : (r : Rule) (p q : Piece) → (is_eq (order_at r (Some p) (Some q)) && fits r p q) ≡ true → IsOneEntry p q
unfolding order_at by_name
one_of NameAndPlace p q h = alike (named_alike p q (both (as_long p q) _ (both _ _ h).1).1)
one_of Name p q h = alike (named_alike p q (both _ true h).0)
one_of Place p q h = placed (placed_alike p q h)

-- the number of a piece, and what its row has of the other upload
pub record Stands (part : List (Option ℕ)) (all others : List Piece) (x : Piece) (beside : Option Piece) : Type 0 where
  pub by : ℕ
  pub is : slice_get all by ≡ Some x
  pub other : Option ℕ
  pub with : slice_get part by ≡ Some other
  pub shown : piece_numbered others other ≡ beside

module _ (ps qs : List Piece) where
  AreOne : ℕ → ℕ → Type 0
  AreOne i j = (p q : Piece) → slice_get ps i ≡ Some p → slice_get qs j ≡ Some q → IsOneEntry p q

  Good : Partners → Type 0
  Good p = (i j : ℕ) → slice_get p.of_a i ≡ Some (Some j) → AreOne i j

  ruled : (r : Rule) (i j : ℕ) → (is_eq (order_at r (slice_get ps i) (slice_get qs j)) && fits_at r (slice_get ps i) (slice_get qs j)) ≡ true → AreOne i j
  unfolding AreOne
  ruled r i j h p q a b = one_of r p q (sym (λ k. is_eq (order_at r (a k) (b k)) && fits_at r (a k) (b k)) ∙ h)

  near : (x : Piece) (i j : ℕ) → slice_get ps i ≡ Some x → as_long_at x (slice_get qs j) ≡ true → AreOne i j
  unfolding AreOne
  near x i j e h p q a b =
      let same : x ≡ p = cc in
      let long : as_long p q ≡ true = sym (λ k. as_long_at (same k) (b k)) ∙ h in
      long_entry (eqb-true _ _ long)

  step : (i j : ℕ) (p : Partners) → AreOne i j → Good p → Good (joined i j p)
  unfolding AreOne Good
  step i j p o good =
      joined_kept Good i j p (λ a b k l h.
      elim (set_either p.of_a i k (Some j) (Some l) h) [
        | inl e ↦ (let same : j ≡ l = let s = e.1 in cc in λ x y c d. o x y (ap (slice_get ps) (sym e.0) ∙ c) (ap (slice_get qs) same ∙ d))
        | inr g ↦ good k l g
      ]) good

  abbrev pub p : Partners
  p = partners_of ps qs

  good : Good p
  unfolding Good
  good = all_kept Good ps qs AreOne step ruled near (λ i j e. absurd (nobody_there _ i j e))

  pub m : Mutual (length ps) (length qs) p
  m = both_ways ps qs

  abbrev rows : List Pair → List Row
  rows xs = map (row_of ps qs) xs

  rows_append : (xs ys : List Pair) → AreRows (rows xs) → AreRows (rows ys) → AreRows (rows (xs ++ ys))
  rows_append [] ys a b = b
  rows_append (x ∷ xs) ys a b = (a.0, rows_append xs ys a.1 b)

  alone_rows : (k : ℕ) (xs : List (Option ℕ)) → drop k p.of_b ≡ xs → AreRows (rows (alone k xs))
  unfolding alone
  alone_rows k [] e = tt
  alone_rows k (Some i ∷ xs) e = tt
  alone_rows k (None ∷ xs) e =
      let inside = slice_get_within p.of_b k None (drop_step k p.of_b e).0 in
      let t = got qs k (omega (arith, inside, m.long_b)) in
      (subst (IsRow None) (sym t.is) tt, alone_rows (k + 1) xs (drop_next k p.of_b e))

  behind_rows : (o : Option ℕ) → AreRows (rows (behind o p.of_b))
  behind_rows None = tt
  behind_rows (Some j) = alone_rows (j + 1) (drop (j + 1) p.of_b) refl

  row : (k : ℕ) (o : Option ℕ) → slice_get p.of_a k ≡ Some o → IsRow (slice_get ps k) (piece_numbered qs o)
  unfolding Good AreOne
  row k None e =
      let inside = slice_get_within p.of_a k None e in
      let t = got ps k (omega (arith, inside, m.long_a)) in
      subst (λ (a : Option Piece). IsRow a None) (sym t.is) tt
  row k (Some j) e =
      let inside = slice_get_within p.of_a k (Some j) e in
      let t = got ps k (omega (arith, inside, m.long_a)) in
      let other = slice_get_within p.of_b j (Some k) (m.there k j e) in
      let u = got qs j (omega (arith, other, m.long_b)) in
      subst (λ (a : Option Piece). IsRow a (slice_get qs j)) (sym t.is) (subst (IsRow (Some t.it)) (sym u.is) (good k j e t.it u.it t.is u.is))

  told_rows : (k : ℕ) (xs : List (Option ℕ)) → drop k p.of_a ≡ xs → AreRows (rows (flat_map (λ x. told_one p.of_b x.0 x.1) (enumerate_from k xs)))
  told_rows k [] e = tt
  told_rows k (o ∷ xs) e = (row k o (drop_step k p.of_a e).0, rows_append (behind o p.of_b) (flat_map (λ x. told_one p.of_b x.0 x.1) (enumerate_from (k + 1) xs)) (behind_rows o) (told_rows (k + 1) xs (drop_next k p.of_a e)))

  each : AreRows (rows_of ps qs)
  unfolding rows_of pairs_of told
  each = rows_append (alone 0 p.of_b) (told p.of_a p.of_b) (alone_rows 0 p.of_b refl) (told_rows 0 p.of_a refl)

  -- what a pair is that stands among the rows
  data IsPair (x : Pair) : Type 0 where
    in_a : (k : ℕ) → x.a ≡ Some k → x.b ≡ None → slice_get p.of_a k ≡ Some None → IsPair x
    in_b : (k : ℕ) → x.a ≡ None → x.b ≡ Some k → slice_get p.of_b k ≡ Some None → IsPair x
    in_both : (k j : ℕ) → x.a ≡ Some k → x.b ≡ Some j → slice_get p.of_a k ≡ Some (Some j) → IsPair x

  ArePairs : List Pair → Type 0
  ArePairs xs = (m : ℕ) (x : Pair) → slice_get xs m ≡ Some x → IsPair x

  no_pairs : ArePairs []
  unfolding ArePairs
  no_pairs m x e = cc

  one_pair : (x : Pair) (xs : List Pair) → IsPair x → ArePairs xs → ArePairs (x ∷ xs)
  unfolding ArePairs
  one_pair x xs h t zero y e = let same : x ≡ y = cc in subst IsPair same h
  one_pair x xs h t (suc m) y e = t m y e

  more_pairs : (xs ys : List Pair) → ArePairs xs → ArePairs ys → ArePairs (xs ++ ys)
  unfolding ArePairs
  more_pairs [] ys a b = b
  more_pairs (x ∷ xs) ys a b = one_pair x (xs ++ ys) (a zero x refl) (more_pairs xs ys (λ m y e. a (suc m) y e) b)

  alone_pairs : (k : ℕ) (xs : List (Option ℕ)) → drop k p.of_b ≡ xs → ArePairs (alone k xs)
  unfolding alone
  alone_pairs k [] e = no_pairs
  alone_pairs k (Some i ∷ xs) e = no_pairs
  alone_pairs k (None ∷ xs) e = one_pair _ _ (in_b k refl refl (drop_step k p.of_b e).0) (alone_pairs (k + 1) xs (drop_next k p.of_b e))

  behind_pairs : (o : Option ℕ) → ArePairs (behind o p.of_b)
  behind_pairs None = no_pairs
  behind_pairs (Some j) = alone_pairs (j + 1) (drop (j + 1) p.of_b) refl

  pair : (k : ℕ) (o : Option ℕ) → slice_get p.of_a k ≡ Some o → IsPair (record { a = Some k; b = o })
  pair k None e = in_a k refl refl e
  pair k (Some j) e = in_both k j refl refl e

  told_pairs : (k : ℕ) (xs : List (Option ℕ)) → drop k p.of_a ≡ xs → ArePairs (flat_map (λ x. told_one p.of_b x.0 x.1) (enumerate_from k xs))
  told_pairs k [] e = no_pairs
  told_pairs k (o ∷ xs) e = one_pair _ _ (pair k o (drop_step k p.of_a e).0) (more_pairs (behind o p.of_b) (flat_map (λ x. told_one p.of_b x.0 x.1) (enumerate_from (k + 1) xs)) (behind_pairs o) (told_pairs (k + 1) xs (drop_next k p.of_a e)))

  all_pairs : ArePairs (pairs_of p)
  unfolding pairs_of told
  all_pairs = more_pairs (alone 0 p.of_b) (told p.of_a p.of_b) (alone_pairs 0 p.of_b refl) (told_pairs 0 p.of_a refl)

  -- the pair of a row
  record Made (xs : List Pair) (m : ℕ) (r : Row) : Type 0 where
    of : Pair
    at : slice_get xs m ≡ Some of
    is : row_of ps qs of ≡ r

  made : (xs : List Pair) (m : ℕ) (r : Row) → slice_get (rows xs) m ≡ Some r → Made xs m r
  made [] m r e = cc
  made (x ∷ xs) zero r e = record { of = x; at = refl; is = cc }
  made (x ∷ xs) (suc m) r e = let d = made xs m r e in record { of = d.of; at = d.at; is = d.is }

  -- after the first two rules
  abbrev pub two : Partners
  two = by_names ps qs

  Named : Partners → Type 0
  Named q = (i j : ℕ) (x y : Piece) → slice_get q.of_a i ≡ Some (Some j) → slice_get ps i ≡ Some x → slice_get qs j ≡ Some y → IsNamedAlike x y

  by_name_and_place : (x y : Piece) → (is_eq (order_at NameAndPlace (Some x) (Some y)) && fits NameAndPlace x y) ≡ true → IsNamedAlike x y
  unfolding by_name
  by_name_and_place x y h = named_alike x y (both (as_long x y) _ (both _ _ h).1).1

  by_the_name : (x y : Piece) → (is_eq (order_at Name (Some x) (Some y)) && fits Name x y) ≡ true → IsNamedAlike x y
  unfolding order_at by_name
  by_the_name x y h = named_alike x y (both _ true h).0

  named_step : (r : Rule) → ((x y : Piece) → (is_eq (order_at r (Some x) (Some y)) && fits r x y) ≡ true → IsNamedAlike x y)
      → (i j : ℕ) (q : Partners) → (is_eq (order_at r (slice_get ps i) (slice_get qs j)) && fits_at r (slice_get ps i) (slice_get qs j)) ≡ true → Named q → Named (joined i j q)
  unfolding Named
  named_step r meant i j q e n =
      joined_kept Named i j q (λ a b k l x y h c d.
      elim (set_either q.of_a i k (Some j) (Some l) h) [
        | inl s ↦
            (let same : l ≡ j = let t = s.1 in cc in
            let c' : slice_get ps i ≡ Some x = ap (slice_get ps) (sym s.0) ∙ c in
            let d' : slice_get qs j ≡ Some y = ap (slice_get qs) (sym same) ∙ d in
            meant x y (sym (λ z. is_eq (order_at r (c' z) (d' z)) && fits_at r (c' z) (d' z)) ∙ e))
        | inr g ↦ n k l x y g c d
      ]) n

  two_named : Named two
  unfolding Named
  two_named =
      rule_by Named ps qs Name (named_step Name by_the_name) _
      (rule_by Named ps qs NameAndPlace (named_step NameAndPlace by_name_and_place) (nobody ps qs) (λ i j x y e c d. absurd (nobody_there _ i j e)))

  pub two_kept : (k l : ℕ) → slice_get two.of_a k ≡ Some (Some l) → slice_get p.of_a k ≡ Some (Some l)
  unfolding partners_of Keeps
  two_kept = near_keeps ps qs two _ (rule_keeps ps qs two Place two (λ k l e. e))

  pub two_mutual : Mutual (length ps) (length qs) two
  two_mutual = rule_mutual ps qs Name _ (rule_mutual ps qs NameAndPlace (nobody ps qs) (mutual_none ps qs))

  -- the pair in which a piece of A, or of B, stands
  record At (part : List (Option ℕ)) (all : List Piece) (x : Piece) (other : Option ℕ) : Type 0 where
    by : ℕ
    is : slice_get all by ≡ Some x
    with : slice_get part by ≡ Some other

  at_in_a : (x : Pair) (it : Piece) → IsPair x → piece_numbered ps x.a ≡ Some it → At p.of_a ps it x.b
  at_in_a x it (in_a k a b f) c = record { by = k; is = ap (piece_numbered ps) (sym a) ∙ c; with = f ∙ ap (λ (o : Option ℕ). Some o) (sym b) }
  at_in_a x it (in_b k a b f) c = let n : piece_numbered ps x.a ≡ None = ap (piece_numbered ps) a in cc
  at_in_a x it (in_both k j a b f) c = record { by = k; is = ap (piece_numbered ps) (sym a) ∙ c; with = f ∙ ap (λ (o : Option ℕ). Some o) (sym b) }

  at_in_b : (x : Pair) (it : Piece) → IsPair x → piece_numbered qs x.b ≡ Some it → At p.of_b qs it x.a
  at_in_b x it (in_b k a b f) c = record { by = k; is = ap (piece_numbered qs) (sym b) ∙ c; with = f ∙ ap (λ (o : Option ℕ). Some o) (sym a) }
  at_in_b x it (in_a k a b f) c = let n : piece_numbered qs x.b ≡ None = ap (piece_numbered qs) b in cc
  at_in_b x it (in_both k j a b f) c = record { by = j; is = ap (piece_numbered qs) (sym b) ∙ c; with = m.there k j f ∙ ap (λ (o : Option ℕ). Some o) (sym a) }

  pub stands_a : (k : ℕ) (r : Row) (x : Piece) → slice_get (rows_of ps qs) k ≡ Some r → r.a ≡ Some x → Stands p.of_a ps qs x r.b
  unfolding rows_of ArePairs
  stands_a k r x e ra =
      let u = made (pairs_of p) k r e in
      let one = at_in_a u.of x (all_pairs k u.of u.at) (ap (λ (z : Row). z.a) u.is ∙ ra) in
      record { by = one.by; is = one.is; other = u.of.b; with = one.with; shown = ap (λ (z : Row). z.b) u.is }

  pub stands_b : (k : ℕ) (r : Row) (x : Piece) → slice_get (rows_of ps qs) k ≡ Some r → r.b ≡ Some x → Stands p.of_b qs ps x r.a
  unfolding rows_of ArePairs
  stands_b k r x e rb =
      let u = made (pairs_of p) k r e in
      let one = at_in_b u.of x (all_pairs k u.of u.at) (ap (λ (z : Row). z.b) u.is ∙ rb) in
      record { by = one.by; is = one.is; other = u.of.a; with = one.with; shown = ap (λ (z : Row). z.a) u.is }

  -- of two pieces one was joined by then and stays so, or both were free
  module _ (t : Partners) (two_ways : Mutual (length ps) (length qs) t) (kept : (k l : ℕ) → slice_get t.of_a k ≡ Some (Some l) → slice_get p.of_a k ≡ Some (Some l))
      (Q : Option Piece → Option Piece → Type 0) (joined_so : (i j : ℕ) → slice_get t.of_a i ≡ Some (Some j) → Q (slice_get ps i) (slice_get qs j)) where
    pub joined_or_free : (x y : Piece) (a b : Option Piece) (one : Stands p.of_a ps qs x b) (other : Stands p.of_b qs ps y a)
        → (Q (Some x) b ⊎ Q a (Some y)) ⊎ ((slice_get t.of_a one.by ≡ Some None) × (slice_get t.of_b other.by ≡ Some None))
    joined_or_free x y a b one other = by (slice_get t.of_a one.by) (slice_get t.of_b other.by) refl refl
      where
        by : (v w : Option (Option ℕ)) → slice_get t.of_a one.by ≡ v → slice_get t.of_b other.by ≡ w → (Q (Some x) b ⊎ Q a (Some y)) ⊎ ((slice_get t.of_a one.by ≡ Some None) × (slice_get t.of_b other.by ≡ Some None))
        by None w e f = absurd (got_none t.of_a one.by (omega (arith, slice_get_within ps one.by x one.is, two_ways.long_a)) e)
        by (Some (Some l)) w e f =
            let same : Some l ≡ one.other = (let z = kept one.by l e in let o = one.with in cc) in
            let shown : slice_get qs l ≡ b = ap (piece_numbered qs) same ∙ one.shown in
            inl (inl (subst (Q (Some x)) shown (subst (λ (o : Option Piece). Q o (slice_get qs l)) one.is (joined_so one.by l e))))
        by (Some None) None e f = absurd (got_none t.of_b other.by (omega (arith, slice_get_within qs other.by y other.is, two_ways.long_b)) f)
        by (Some None) (Some (Some k)) e f =
            let back = two_ways.back other.by k f in
            let same : Some k ≡ other.other = (let z = m.there k other.by (kept k other.by back) in let o = other.with in cc) in
            let shown : slice_get ps k ≡ a = ap (piece_numbered ps) same ∙ other.shown in
            inl (inr (subst (λ (o : Option Piece). Q o (Some y)) shown (subst (Q (slice_get ps k)) other.is (joined_so k other.by back))))
        by (Some None) (Some None) e f = inr (e, f)

  pub named_row : (i j : ℕ) → slice_get two.of_a i ≡ Some (Some j) → AreNamed (slice_get ps i) (slice_get qs j)
  unfolding Named
  named_row i j e =
      let t = got ps i (omega (arith, slice_get_within two.of_a i (Some j) e, two_mutual.long_a)) in
      let u = got qs j (omega (arith, slice_get_within two.of_b j (Some i) (two_mutual.there i j e), two_mutual.long_b)) in
      subst (λ (a : Option Piece). AreNamed a (slice_get qs j)) (sym t.is) (subst (AreNamed (Some t.it)) (sym u.is) (two_named i j t.it u.it e t.is u.is))

  pub named_or_free : (x y : Piece) (a b : Option Piece) (one : Stands p.of_a ps qs x b) (other : Stands p.of_b qs ps y a)
      → (AreNamed (Some x) b ⊎ AreNamed a (Some y)) ⊎ ((slice_get two.of_a one.by ≡ Some None) × (slice_get two.of_b other.by ≡ Some None))
  named_or_free = joined_or_free two two_mutual two_kept AreNamed named_row

  apart : AreApart (rows_of ps qs)
  apart i j r s x y e f ra sb alike_named =
      let one = stands_a i r x e ra in
      let other = stands_b j s y f sb in
      elim (named_or_free x y s.a r.b one other) [
        | inl n ↦ elim n [
          | inl o ↦ inl (subst (λ (o : Option Piece). AreNamed o r.b) (sym ra) o)
          | inr o ↦ inr (subst (AreNamed s.a) (sym sb) o)
        ]
        | inr free ↦ absurd (left_apart ps qs one.by other.by x y one.is other.is free.0 free.1 alike_named)
      ]

pub rows_meant : RowsMeant
rows_meant = record { ours = ours; theirs = theirs; each = each; apart = apart; in_place = in_its_place }

-- By which rule two are the same entry, and which rule goes before which.
use Rattle.std.proofs.Common.{ℕ, zero, suc, ◌+◌, ◌<◌, ◌≡◌, ◌⊎◌, inl, inr, refl, sym, ap, subst, ◌∙◌, Bool, true, false, ◌&&◌, ◌||◌, eqb-true, nat_eq, List, length, arith, add-one}
use Rattle.std.specs.Prelude.{Option, Some, None, slice_get, replicate, is_err}
use Rattle.std.specs.Ordering.{is_eq}
use Rattle.std.specs.declared.cmp.Ordering.TheVariants.{Equal}
use Rattle.std.proofs.Math.ListN.{length-replicate}
use Rattle.std.proofs.lemmas.Bool.{cases_lt}
use Rattle.std.proofs.lemmas.Cmp.{nat_eq_equiv, tied_back}
use Rattle.std.proofs.lemmas.Option.{slice_get_within}
use Rattle.report.specs.declared.Upload.{Upload}
use Rattle.pairing.specs.declared.pieces.Piece.{Piece}
use Rattle.pairing.specs.declared.pairs.Rule.TheVariants.{NameAndPlace, Name, Place}
use Rattle.pairing.specs.declared.rows.Row.{Row}
use Rattle.pairing.specs.Pieces.{pieces_of, by_name}
use Rattle.pairing.specs.Pairs.{Partners, nobody, joined, order_at, fits, fits_at, as_long, by_rule, partners_of}
use Rattle.pairing.specs.Rows.{piece_numbered, rows_of}
use Rattle.pairing.specs.Told.{IsNamedAlike, AreNamed, AreAsLong, IsPlacedAlike}
use Rattle.pairing.specs.Rules.{OfA, OfB, IsThere, GoesBefore, GoesBeforeInB, ArePlaced, AreBehind, RulesMeant}
use Rattle.pairing.proofs.Orders.{order_total}
use Rattle.pairing.proofs.Lists.{set_either, got, got_none, contained, contains, from}
use Rattle.pairing.proofs.Kept.{joined_kept, rule_by, Mutual, rule_mutual, Keeps, rule_keeps, near_keeps, both_ways, nobody_there}
use Rattle.pairing.proofs.Once.{ours}
use Rattle.pairing.proofs.Apart.{R, by_names, same_key, left_apart}
use Rattle.pairing.proofs.Told.{named_alike, placed_alike, both, one_place, Stands, stands_a, stands_b, two_mutual, two_kept, named_row, named_or_free, joined_or_free}
use Rattle.pairing.proofs.Laid.{Laid, laid, stands_before, one_number, next_begins, after_is}
use Rattle.pairing.proofs.Places.{exact_met, placed_met}
use Rattle.pairing.proofs.First.{equal_through, one, one_mutual, Found, FoundB, first_of_a, first_of_b}
use Rattle.pairing.proofs.Near.{Next, Since, AreAsLong as SameLength, near_since, near_met}

nobody_free : (n k : ℕ) → k < n → slice_get {X = Option ℕ} (replicate n None) k ≡ Some None
nobody_free zero k h = absurd (omega arith)
nobody_free (suc n) zero h = refl
nobody_free (suc n) (suc k) h = nobody_free n k (omega arith)

long_of : (p q : Piece) → AreAsLong p q → as_long p q ≡ true
long_of p q e = (λ k. nat_eq (e k) (length q.bytes.now)) ∙ nat_eq_equiv.refl (length q.bytes.now)

exact_fits : (p q : Piece) → IsNamedAlike p q → AreAsLong p q → fits NameAndPlace p q ≡ true
unfolding by_name order_at
exact_fits p q n e = (λ k. long_of p q e k && is_eq (same_key p q n k))

placed_fits : (p q : Piece) → IsPlacedAlike p q → fits Place p q ≡ true
placed_fits p q h = by (as_long p q) (is_err p.name) (is_err q.name) (elim h.1 [ inl e ↦ inl (long_of p q e) | inr e ↦ inr e ])
  where
    by : (a b c : Bool) → (a ≡ true) ⊎ ((b ≡ true) ⊎ (c ≡ true)) → (a || b || c) ≡ true
    by true b c h = refl
    by false true c h = refl
    by false false c (inl e) = cc
    by false false c (inr (inl e)) = cc
    by false false c (inr (inr e)) = e

-- what the third rule joins
placed_of : (a b : Option Piece) → (is_eq (order_at Place a b) && fits_at Place a b) ≡ true → ArePlaced a b
placed_of None b h = let f = (both (is_eq (order_at Place None b)) false h).1 in cc
placed_of (Some p) None h = let f = (both (is_eq (order_at Place (Some p) None)) false h).1 in cc
placed_of (Some p) (Some q) h = placed_alike p q h

-- what the first rule joins
exact_of : (p q : Piece) → (is_eq (order_at NameAndPlace (Some p) (Some q)) && fits NameAndPlace p q) ≡ true → IsNamedAlike p q × IsThere p q
unfolding order_at
exact_of p q h =
    let w = both (is_eq (order_at NameAndPlace (Some p) (Some q))) (fits NameAndPlace p q) h in
    let f = both (as_long p q) (is_eq (by_name p q)) w.1 in
    (named_alike p q f.1, (one_place p.place q.place w.0, eqb-true _ _ f.0))

module _ (ps qs : List Piece) where
  abbrev two : Partners
  two = by_names ps qs

  abbrev three : Partners
  three = by_rule Place ps qs two

  abbrev p : Partners
  p = partners_of ps qs

  m : Mutual (length ps) (length qs) p
  m = both_ways ps qs

  three_mutual : Mutual (length ps) (length qs) three
  three_mutual = rule_mutual ps qs Place two (two_mutual ps qs)

  three_kept : (k l : ℕ) → slice_get three.of_a k ≡ Some (Some l) → slice_get p.of_a k ≡ Some (Some l)
  unfolding partners_of Keeps
  three_kept = near_keeps ps qs three three (λ k l e. e)

  one_kept : (k l : ℕ) → slice_get (by_rule NameAndPlace ps qs (nobody ps qs)).of_a k ≡ Some (Some l) → slice_get p.of_a k ≡ Some (Some l)
  unfolding Keeps
  one_kept k l e = two_kept ps qs k l (rule_keeps ps qs (by_rule NameAndPlace ps qs (nobody ps qs)) Name _ (λ k l e. e) k l e)

  -- named alike or at one place
  Better : Option Piece → Option Piece → Type 0
  Better a b = AreNamed a b ⊎ ArePlaced a b

  AllBetter : Partners → Type 0
  AllBetter t = (i j : ℕ) → slice_get t.of_a i ≡ Some (Some j) → Better (slice_get ps i) (slice_get qs j)

  better_step : (i j : ℕ) (t : Partners) → (is_eq (order_at Place (slice_get ps i) (slice_get qs j)) && fits_at Place (slice_get ps i) (slice_get qs j)) ≡ true → AllBetter t → AllBetter (joined i j t)
  unfolding AllBetter Better
  better_step i j t e all =
      joined_kept AllBetter i j t (λ a b k l h.
      elim (set_either t.of_a i k (Some j) (Some l) h) [
        | inl s ↦
            (let same : l ≡ j = let t = s.1 in cc in
            inr (subst (λ (z : ℕ). ArePlaced (slice_get ps z) (slice_get qs l)) (sym s.0) (subst (λ (z : ℕ). ArePlaced (slice_get ps i) (slice_get qs z)) (sym same) (placed_of (slice_get ps i) (slice_get qs j) e))))
        | inr g ↦ all k l g
      ]) all

  three_better : AllBetter three
  unfolding AllBetter Better
  three_better = rule_by AllBetter ps qs Place better_step two (λ i j e. inl (named_row ps qs i j e))

  AllExact : Partners → Type 0
  AllExact t = (i j : ℕ) → slice_get t.of_a i ≡ Some (Some j) → (x y : Piece) → slice_get ps i ≡ Some x → slice_get qs j ≡ Some y → IsNamedAlike x y × IsThere x y

  exact_step : (i j : ℕ) (t : Partners) → (is_eq (order_at NameAndPlace (slice_get ps i) (slice_get qs j)) && fits_at NameAndPlace (slice_get ps i) (slice_get qs j)) ≡ true → AllExact t → AllExact (joined i j t)
  unfolding AllExact
  exact_step i j t e all =
      joined_kept AllExact i j t (λ a b k l h x y c d.
      elim (set_either t.of_a i k (Some j) (Some l) h) [
        | inl s ↦
            (let same : l ≡ j = let t = s.1 in cc in
            let c' : slice_get ps i ≡ Some x = ap (slice_get ps) (sym s.0) ∙ c in
            let d' : slice_get qs j ≡ Some y = ap (slice_get qs) (sym same) ∙ d in
            exact_of x y (sym (λ z. is_eq (order_at NameAndPlace (c' z) (d' z)) && fits_at NameAndPlace (c' z) (d' z)) ∙ e))
        | inr g ↦ all k l g x y c d
      ]) all

  one_exact : AllExact (one ps qs)
  unfolding AllExact
  one_exact = rule_by AllExact ps qs NameAndPlace exact_step (nobody ps qs) (λ i j e. absurd (nobody_there _ i j e))

  -- what stands beside a piece in its row
  record Pair (x : Piece) (beside : Piece) : Type 0 where
    by : ℕ
    is : slice_get ps by ≡ Some x
    other : ℕ
    shown : slice_get qs other ≡ Some beside
    with : slice_get p.of_a by ≡ Some (Some other)

  pair : (x y : Piece) (b : Option Piece) → Stands p.of_a ps qs x b → b ≡ Some y → Pair x y
  pair x y b one e = by one.other one.with one.shown
    where
      by : (o : Option ℕ) → slice_get p.of_a one.by ≡ Some o → piece_numbered qs o ≡ b → Pair x y
      by None g h = cc
      by (Some j) g h = record { by = one.by; is = one.is; other = j; shown = h ∙ e; with = g }

module _ (u v : Upload) where
  abbrev us : List Piece
  us = pieces_of u

  abbrev vs : List Piece
  vs = pieces_of v

  abbrev all : Partners
  all = partners_of us vs

  at_a : (x : Piece) (r : Row) → OfA u v x r → Stands all.of_a us vs x r.b
  at_a x r o = let c = contained (rows_of us vs) r o.is_row in stands_a us vs c.0 r x c.1 o.has

  at_b : (y : Piece) (s : Row) → OfB u v y s → Stands all.of_b vs us y s.a
  at_b y s o = let c = contained (rows_of us vs) s o.is_row in stands_b us vs c.0 s y c.1 o.has

  -- partners are told in one row
  one_row : (x y : Piece) (r s : Row) (one : Stands all.of_a us vs x r.b) (other : Stands all.of_b vs us y s.a) → r.a ≡ Some x → s.b ≡ Some y → slice_get all.of_a one.by ≡ Some (Some other.by) → r ≡ s
  one_row x y r s one other ra sb e =
      let o : one.other ≡ Some other.by = (let w = one.with in cc) in
      let n : other.other ≡ Some one.by = (let w = other.with in let b = (m us vs).there one.by other.by e in cc) in
      let rb : r.b ≡ Some y = sym one.shown ∙ ap (piece_numbered vs) o ∙ other.is in
      let sa : s.a ≡ Some x = sym other.shown ∙ ap (piece_numbered us) n ∙ one.is in
      let a : r.a ≡ s.a = ra ∙ sym sa in
      let b : r.b ≡ s.b = rb ∙ sym sb in
      λ k. record { a = a k; b = b k }

  same : (x y : Piece) (r s : Row) → OfA u v x r → OfB u v y s → IsNamedAlike x y → IsThere x y → r ≡ s
  same x y r s o q alike there =
      let one = at_a x r o in
      let other = at_b y s q in
      let met =
      exact_met us vs (laid u) (laid v) one.by other.by x y one.is other.is there.0 (exact_fits x y alike there.1) (nobody us vs) (length-replicate _ _) (length-replicate _ _)
      (nobody_free (length us) one.by (slice_get_within us one.by x one.is)) (nobody_free (length vs) other.by (slice_get_within vs other.by y other.is)) in
      one_row x y r s one other o.has q.has (one_kept us vs one.by other.by met)

  placed : (x y : Piece) (r s : Row) → OfA u v x r → OfB u v y s → IsPlacedAlike x y → (r ≡ s) ⊎ (AreNamed r.a r.b ⊎ AreNamed s.a s.b)
  placed x y r s o q alike =
      let one = at_a x r o in
      let other = at_b y s q in
      elim (named_or_free us vs x y s.a r.b one other) [
        | inl n ↦ inr (elim n [ inl w ↦ inl (subst (λ (a : Option Piece). AreNamed a r.b) (sym o.has) w) | inr w ↦ inr (subst (AreNamed s.a) (sym q.has) w) ])
        | inr free ↦ (
            let met = placed_met us vs (laid u) (laid v) one.by other.by x y one.is other.is alike.0 (placed_fits x y alike) (two us vs) (two_mutual us vs).long_a (two_mutual us vs).long_b free.0 free.1 in
            inl (one_row x y r s one other o.has q.has (three_kept us vs one.by other.by met)))
      ]

  -- the row of two partners
  row_of_two : (i j : ℕ) (x y : Piece) → slice_get us i ≡ Some x → slice_get vs j ≡ Some y → slice_get all.of_a i ≡ Some (Some j) → (t : Row) × OfA u v x t × (t.b ≡ Some y)
  row_of_two i j x y a b e =
      let f = from (λ r. r.a) x (rows_of us vs) i (ap (λ (l : List Piece). slice_get l i) (ours us vs) ∙ a) in
      let one = stands_a us vs f.number f.it x f.is f.gives in
      let at : one.by ≡ i = one_number us (laid u) one.by i one.is a refl in
      let same : one.other ≡ Some j = (let w = one.with in let z : slice_get all.of_a one.by ≡ slice_get all.of_a i = ap (slice_get all.of_a) at in cc) in
      (f.it, record { is_row = contains (rows_of us vs) f.number f.it f.is; has = f.gives }, sym one.shown ∙ ap (piece_numbered vs) same ∙ b)

  behind_row : (x y : Piece) (r : Row) → OfA u v x r → r.b ≡ Some y → IsNamedAlike x y ⊎ (IsPlacedAlike x y ⊎ (AreAsLong x y × AreBehind u v x y))
  unfolding partners_of Since SameLength Better AllBetter
  behind_row x y r o rb =
      let w = pair us vs x y r.b (at_a x r o) rb in
      elim (near_since us vs (three us vs) w.by w.other w.with) [
        | inl e ↦ (
            let b : Better us vs (Some x) (Some y) = subst (λ (z : Option Piece). Better us vs z (Some y)) w.is (subst (Better us vs (slice_get us w.by)) w.shown (three_better us vs w.by w.other e)) in
            elim b [ inl n ↦ inl n | inr n ↦ inr (inl n) ])
        | inr n ↦ inr (inr (next_to w.by w.other w.is w.shown n.0 (n.1 x y w.is w.shown)))
      ]
    where
      next_to : (i j : ℕ) → slice_get us i ≡ Some x → slice_get vs j ≡ Some y → Next all i j → AreAsLong x y → AreAsLong x y × AreBehind u v x y
      next_to i j a b n long =
          let c : slice_get us (suc n.i) ≡ Some x = ap (slice_get us) (sym (n.ours ∙ add-one n.i)) ∙ a in
          let d : slice_get vs (suc n.j) ≡ Some y = ap (slice_get vs) (sym (n.theirs ∙ add-one n.j)) ∙ b in
          let x' = got us n.i (omega (arith, slice_get_within us (suc n.i) x c)) in
          let y' = got vs n.j (omega (arith, slice_get_within vs (suc n.j) y d)) in
          let t = row_of_two n.i n.j x'.it y'.it x'.is y'.is n.are in
          (long, record { row = t.0; ours = x'.it; theirs = y'.it; before = t.1; other = t.2; next = next_begins 0 us n.i (laid u) x'.is c; next_in_b = next_begins 0 vs n.j (laid v) y'.is d })

  next_row : (x y : Piece) (r s : Row) → OfA u v x r → OfB u v y s → AreAsLong x y → AreBehind u v x y → (r ≡ s) ⊎ ((AreNamed r.a r.b ⊎ ArePlaced r.a r.b) ⊎ (AreNamed s.a s.b ⊎ ArePlaced s.a s.b))
  unfolding Better AllBetter partners_of
  next_row x y r s o q long b =
      let one = at_a x r o in
      let other = at_b y s q in
      elim (joined_or_free us vs (three us vs) (three_mutual us vs) (three_kept us vs) (Better us vs) (three_better us vs) x y s.a r.b one other) [
        | inl n ↦ inr (elim n [ inl w ↦ inl (subst (λ (a : Option Piece). Better us vs a r.b) (sym o.has) w) | inr w ↦ inr (subst (Better us vs s.a) (sym q.has) w) ])
        | inr free ↦ (
            let w = pair us vs b.ours b.theirs b.row.b (at_a b.ours b.row b.before) b.other in
            let i : one.by ≡ w.by + 1 = after_is us (laid u) w.by one.by w.is one.is b.next in
            let j : other.by ≡ w.other + 1 = after_is vs (laid v) w.other other.by w.shown other.is b.next_in_b in
            let met : slice_get all.of_a (w.by + 1) ≡ Some (Some (w.other + 1)) =
            near_met us vs (three us vs) (three_mutual us vs) w.by w.other x y (ap (slice_get us) (sym i) ∙ one.is) (ap (slice_get vs) (sym j) ∙ other.is) (long_of x y long)
            (ap (slice_get (three us vs).of_b) (sym j) ∙ free.1) (ap (slice_get (three us vs).of_a) (sym i) ∙ free.0) w.with in
            inl (one_row x y r s one other o.has q.has (ap (slice_get all.of_a) i ∙ met ∙ ap (λ (n : ℕ). Some (Some n)) (sym j))))
      ]

  -- what goes together by the second rule, and what by the first
  named_then : (i j : ℕ) (x y : Piece) → slice_get us i ≡ Some x → slice_get vs j ≡ Some y → slice_get all.of_a i ≡ Some (Some j) → IsNamedAlike x y → slice_get (two us vs).of_a i ≡ Some (Some j)
  named_then i j x y a b e alike = by (slice_get (two us vs).of_a i) (slice_get (two us vs).of_b j) refl refl
    where
      by : (o n : Option (Option ℕ)) → slice_get (two us vs).of_a i ≡ o → slice_get (two us vs).of_b j ≡ n → slice_get (two us vs).of_a i ≡ Some (Some j)
      by None n f g = absurd (got_none (two us vs).of_a i (omega (arith, slice_get_within us i x a, (two_mutual us vs).long_a)) f)
      by (Some (Some l)) n f g = let k = two_kept us vs i l f in let same : l ≡ j = cc in f ∙ ap (λ (n : ℕ). Some (Some n)) same
      by (Some None) None f g = absurd (got_none (two us vs).of_b j (omega (arith, slice_get_within vs j y b, (two_mutual us vs).long_b)) g)
      by (Some None) (Some None) f g = absurd (left_apart us vs i j x y a b f g alike)
      by (Some None) (Some (Some k)) f g =
          let back = (two_mutual us vs).back j k g in
          let there = (m us vs).there k j (two_kept us vs k j back) in
          let here = (m us vs).there i j e in
          let same : k ≡ i = cc in
          ap (slice_get (two us vs).of_a) (sym same) ∙ back

  -- a piece of A whose partner it is told with, and one of B
  beside_a : (x : Piece) (b : Option Piece) (w : Stands all.of_a us vs x b) (j : ℕ) → slice_get all.of_a w.by ≡ Some (Some j) → b ≡ slice_get vs j
  beside_a x b w j e = let same : w.other ≡ Some j = (let z = w.with in cc) in sym w.shown ∙ ap (piece_numbered vs) same

  beside_b : (y : Piece) (a : Option Piece) (w : Stands all.of_b vs us y a) (i : ℕ) → slice_get all.of_a i ≡ Some (Some w.by) → a ≡ slice_get us i
  beside_b y a w i e = let same : w.other ≡ Some i = (let z = w.with in let t = (m us vs).there i w.by e in cc) in sym w.shown ∙ ap (piece_numbered us) same

  number_before : (l : List Piece) → Laid 0 l → (i j : ℕ) {x y : Piece} → slice_get l i ≡ Some x → slice_get l j ≡ Some y → x.place < y.place → i < j
  number_before l h i j {x} {y} a b less =
      elim (cases_lt i j) [
        | inl k ↦ k
        | inr k ↦ elim (cases_lt j i) [
          | inl k' ↦ absurd (omega (arith, less, stands_before l h j i k' b a))
          | inr k' ↦ (let same : i ≡ j = omega (arith, k, k') in let z : slice_get l i ≡ slice_get l j = ap (slice_get l) same in let one : x ≡ y = cc in let level : x.place ≡ y.place = ap (λ (p : Piece). p.place) one in absurd (omega (arith, less, level)))
        ]
      ]

  alike_names : (x y z : Piece) → IsNamedAlike x z → IsNamedAlike y z → R (Some x) (Some y) ≡ Equal
  alike_names x y z a b = equal_through (Some x) (Some z) (Some y) (same_key x z a) (tied_back (order_total Name) (Some y) (Some z) (same_key y z b))

  first_row : (x y before : Piece) (r s : Row) → OfA u v x r → r.b ≡ Some y → OfA u v before s → IsNamedAlike x y → IsNamedAlike before y → before.place < x.place → IsThere x y ⊎ GoesBefore before s.b y
  unfolding AllExact
  first_row x y before r s o rb q named_xy named_by less =
      let w = pair us vs x y r.b (at_a x r o) rb in
      let z = at_a before s q in
      by w z (slice_get (one us vs).of_a w.by) (slice_get (one us vs).of_a z.by) refl refl
    where
      exact_before : (z : Stands all.of_a us vs before s.b) (l : ℕ) → slice_get (one us vs).of_a z.by ≡ Some (Some l) → GoesBefore before s.b y
      exact_before z l f =
          let kept = one_kept us vs z.by l f in
          let t = got vs l (omega (arith, slice_get_within all.of_b l (Some z.by) ((m us vs).there z.by l kept), (m us vs).long_b)) in
          let exact = one_exact us vs z.by l f before t.it z.is t.is in
          subst (λ (b : Option Piece). GoesBefore before b y) (sym (beside_a before s.b z l kept ∙ t.is)) (exact.0, inl exact.1)

      found_before : (w : Pair us vs x y) (z : Stands all.of_a us vs before s.b) → Found z.by w.other (two us vs) → GoesBefore before s.b y
      found_before w z f =
          let kept = two_kept us vs z.by f.it f.is in
          let t = got vs f.it (omega (arith, slice_get_within all.of_b f.it (Some z.by) ((m us vs).there z.by f.it kept), (m us vs).long_b)) in
          let alike : IsNamedAlike before t.it = subst (λ (b : Option Piece). AreNamed (Some before) b) t.is (subst (λ (a : Option Piece). AreNamed a (slice_get vs f.it)) z.is (named_row us vs z.by f.it f.is)) in
          subst (λ (b : Option Piece). GoesBefore before b y) (sym (beside_a before s.b z f.it kept ∙ t.is)) (alike, inr (stands_before vs (laid v) f.it w.other f.before t.is w.shown))

      by : (w : Pair us vs x y) (z : Stands all.of_a us vs before s.b) (o n : Option (Option ℕ)) → slice_get (one us vs).of_a w.by ≡ o → slice_get (one us vs).of_a z.by ≡ n → IsThere x y ⊎ GoesBefore before s.b y
      by w z None n f g = absurd (got_none (one us vs).of_a w.by (omega (arith, slice_get_within us w.by x w.is, (one_mutual us vs).long_a)) f)
      by w z (Some (Some l)) n f g =
          let kept = one_kept us vs w.by l f in
          let same : l ≡ w.other = (let e = w.with in cc) in
          inl (one_exact us vs w.by l f x y w.is (ap (slice_get vs) same ∙ w.shown)).1
      by w z (Some None) None f g = absurd (got_none (one us vs).of_a z.by (omega (arith, slice_get_within us z.by before z.is, (one_mutual us vs).long_a)) g)
      by w z (Some None) (Some (Some l)) f g = inr (exact_before z l g)
      by w z (Some None) (Some None) f g =
          inr (found_before w z (first_of_a us vs z.by w.by w.other (number_before us (laid u) z.by w.by z.is w.is less) ((λ k. R (z.is k) (w.is k)) ∙ alike_names before x y named_by named_xy) g f
          (named_then w.by w.other x y w.is w.shown w.with named_xy)))

  first_row_in_b : (x y before : Piece) (r s : Row) → OfA u v x r → r.b ≡ Some y → OfB u v before s → IsNamedAlike x y → IsNamedAlike x before → before.place < y.place → IsThere x y ⊎ GoesBeforeInB before s.a x
  unfolding AllExact
  first_row_in_b x y before r s o rb q named_xy named_xb less =
      let w = pair us vs x y r.b (at_a x r o) rb in
      let z = at_b before s q in
      by w z (slice_get (one us vs).of_a w.by) (slice_get (one us vs).of_b z.by) (slice_get (one us vs).of_b w.other) refl refl refl
    where
      exact_before : (z : Stands all.of_b vs us before s.a) (k : ℕ) → slice_get (one us vs).of_b z.by ≡ Some (Some k) → GoesBeforeInB before s.a x
      exact_before z k f =
          let f' = (one_mutual us vs).back z.by k f in
          let kept = one_kept us vs k z.by f' in
          let t = got us k (omega (arith, slice_get_within all.of_a k (Some z.by) kept, (m us vs).long_a)) in
          let exact = one_exact us vs k z.by f' t.it before t.is z.is in
          subst (λ (a : Option Piece). GoesBeforeInB before a x) (sym (beside_b before s.a z k kept ∙ t.is)) (exact.0, inl exact.1)

      found_before : (w : Pair us vs x y) (z : Stands all.of_b vs us before s.a) → FoundB z.by w.by (two us vs) → GoesBeforeInB before s.a x
      found_before w z f =
          let kept = two_kept us vs f.it z.by f.is in
          let t = got us f.it (omega (arith, slice_get_within all.of_a f.it (Some z.by) kept, (m us vs).long_a)) in
          let alike : IsNamedAlike t.it before = subst (λ (b : Option Piece). AreNamed (Some t.it) b) z.is (subst (λ (a : Option Piece). AreNamed a (slice_get vs z.by)) t.is (named_row us vs f.it z.by f.is)) in
          subst (λ (a : Option Piece). GoesBeforeInB before a x) (sym (beside_b before s.a z f.it kept ∙ t.is)) (alike, inr (stands_before us (laid u) f.it w.by f.before t.is w.is))

      by : (w : Pair us vs x y) (z : Stands all.of_b vs us before s.a) (o n q : Option (Option ℕ)) → slice_get (one us vs).of_a w.by ≡ o → slice_get (one us vs).of_b z.by ≡ n → slice_get (one us vs).of_b w.other ≡ q → IsThere x y ⊎ GoesBeforeInB before s.a x
      by w z None n q f g h = absurd (got_none (one us vs).of_a w.by (omega (arith, slice_get_within us w.by x w.is, (one_mutual us vs).long_a)) f)
      by w z (Some (Some l)) n q f g h =
          let kept = one_kept us vs w.by l f in
          let same : l ≡ w.other = (let e = w.with in cc) in
          inl (one_exact us vs w.by l f x y w.is (ap (slice_get vs) same ∙ w.shown)).1
      by w z (Some None) None q f g h = absurd (got_none (one us vs).of_b z.by (omega (arith, slice_get_within vs z.by before z.is, (one_mutual us vs).long_b)) g)
      by w z (Some None) (Some (Some k)) q f g h = inr (exact_before z k g)
      by w z (Some None) (Some None) None f g h = absurd (got_none (one us vs).of_b w.other (omega (arith, slice_get_within vs w.other y w.shown, (one_mutual us vs).long_b)) h)
      by w z (Some None) (Some None) (Some (Some k)) f g h =
          let back = (one_mutual us vs).back w.other k h in
          let kept = (m us vs).there k w.other (one_kept us vs k w.other back) in
          let here = (m us vs).there w.by w.other w.with in
          let same : k ≡ w.by = cc in
          let z : slice_get (one us vs).of_a k ≡ slice_get (one us vs).of_a w.by = ap (slice_get (one us vs).of_a) same in
          absurd (let e = f in cc)
      by w z (Some None) (Some None) (Some None) f g h =
          inr (found_before w z (first_of_b us vs z.by w.by w.other (number_before vs (laid v) z.by w.other z.is w.shown less)
          ((λ k. R (z.is k) (w.shown k)) ∙ equal_through (Some before) (Some x) (Some y) (tied_back (order_total Name) (Some x) (Some before) (same_key x before named_xb)) (same_key x y named_xy)) g h
          (named_then w.by w.other x y w.is w.shown w.with named_xy)))

pub rules_meant : RulesMeant
rules_meant = record { same = same; first = first_row; first_in_b = first_row_in_b; placed = placed; behind = behind_row; next = next_row }

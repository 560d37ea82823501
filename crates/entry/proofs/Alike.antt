-- Two uploads that differ inside some entries: the walk meets the same claims in both.
use Rattle.std.proofs.Common.{ℕ, zero, suc, ◌+◌, ◌-◌, ◌<◌, ◌≤◌, ◌≡◌, ◌⊎◌, inl, inr, refl, sym, ap, subst, ◌∙◌, Bool, true, false, ◌||◌, List, [], ◌∷◌, length, get_or, arith, if◌then◌else◌, ext_get_or}
use Rattle.std.specs.Prelude.{leb, ltb, eqb, Some, Ok}
use Rattle.std.specs.List.{list_any}
use borrow.Author.Tests.{lt-leb, leb-false, eqb-true, eqb-false, eq-eqb, le-ltb, ltb-true, ltb-false}
use Rattle.le.specs.Le.{le4, part}
use Rattle.le.proofs.Laws.{not_both, length_part, get_d_part}
use Rattle.refusal.specs.Refusal.{limit}
use Rattle.entry.specs.declared.Claimed.{Claimed}
use Rattle.entry.specs.declared.Walked.{Walked}
use Rattle.entry.specs.Entry.{claim_at}
use Rattle.entry.specs.Walk.{stands, steps_from, steps, cursor_after}
use Rattle.entry.specs.Bounded.{end_after, bounded_walk}
use Rattle.entry.specs.Alike.{among, IsWhole, DiffersInside, Reached, WalkedAlike}
use Rattle.entry.proofs.Claims.{meets, moves_on}

-- one of some places is the first of them, or one of the rest
pub among_cases : (first : ℕ) (more : List ℕ) (x : ℕ) → among (first ∷ more) x ≡ true → (first ≡ x) ⊎ (among more x ≡ true)
among_cases first more x h = by (eqb first x) refl h
  where
    by : (b : Bool) → eqb first x ≡ b → (b || among more x) ≡ true → (first ≡ x) ⊎ (among more x ≡ true)
    by true e h = inl (eqb-true first x e)
    by false e h = inr h

pub among_first : (first : ℕ) (more : List ℕ) → among (first ∷ more) first ≡ true
among_first first more = simp (eq-eqb first first refl)

or_true : (b : Bool) → (b || true) ≡ true
or_true true = refl
or_true false = refl

pub among_rest : (first : ℕ) (more : List ℕ) (x : ℕ) → among more x ≡ true → among (first ∷ more) x ≡ true
among_rest first more x h = simp h (or_true (eqb first x))

-- one that is not among none
none_of : (x : ℕ) → among [] x ≡ true → ⊥
none_of x h = not_both h refl

-- the steps of a walk do not overlap
module _ (s : List ℕ) where
  -- what one of the steps from a place on is, that is the first or one behind it
  record Among (at left x : ℕ) : Type 0 where
    before_end : at < length s
    which : (at ≡ x) ⊎ ((stands s at ≡ false) × (among (steps_from s (claim_at s at).next left) x ≡ true))

  among_by : (at left x : ℕ) (end stand : Bool) → leb (length s) at ≡ end → stands s at ≡ stand → among (if end then [] else at ∷ (if stand then [] else steps_from s (claim_at s at).next left)) x ≡ true → Among at left x
  among_by at left x true stand e f h = absurd (none_of x h)
  among_by at left x false true e f h = record { before_end = leb-false (length s) at e; which = elim (among_cases at [] x h) [ inl a ↦ inl a | inr b ↦ absurd (none_of x b) ] }
  among_by at left x false false e f h = record { before_end = leb-false (length s) at e; which = elim (among_cases at _ x h) [ inl a ↦ inl a | inr b ↦ inr (f, b) ] }

  among_steps : (at left x : ℕ) → among (steps_from s at (suc left)) x ≡ true → Among at left x
  unfolding steps_from
  among_steps at left x h = among_by at left x (leb (length s) at) (stands s at) refl refl h

  moves : (at : ℕ) → at < length s → stands s at ≡ false → at < (claim_at s at).next
  moves at h f = omega (arith, moves_on s at h, eqb-false (claim_at s at).next at f)

  no_steps : (at x : ℕ) → among (steps_from s at zero) x ≡ true → ⊥
  unfolding steps_from
  no_steps at x h = none_of x h

  not_before : (at left x : ℕ) → among (steps_from s at left) x ≡ true → at ≤ x
  not_before at zero x h = absurd (no_steps at x h)
  not_before at (suc left) x h =
      let a = among_steps at left x h in
      elim a.which [ inl e ↦ omega (arith, e) | inr b ↦ omega (arith, moves at a.before_end b.0, not_before (claim_at s at).next left x b.1) ]

  pub before_end : (at left x : ℕ) → among (steps_from s at left) x ≡ true → x < length s
  before_end at zero x h = absurd (no_steps at x h)
  before_end at (suc left) x h =
      let a = among_steps at left x h in
      elim a.which [ inl e ↦ omega (arith, e, a.before_end) | inr b ↦ before_end (claim_at s at).next left x b.1 ]

  pub apart : (at left x y : ℕ) → among (steps_from s at left) x ≡ true → among (steps_from s at left) y ≡ true → x < y → (claim_at s x).next ≤ y
  apart at zero x y h k l = absurd (no_steps at x h)
  apart at (suc left) x y h k l =
      let a = among_steps at left x h in
      let b = among_steps at left y k in
      elim a.which [
        | inl e ↦ elim b.which [
          | inl f ↦ absurd (omega (arith, e, f))
          | inr f ↦ subst (λ (n : ℕ). (claim_at s n).next ≤ y) e (not_before (claim_at s at).next left y f.1)
        ]
        | inr e ↦ elim b.which [
          | inl f ↦ absurd (omega (arith, f, moves at a.before_end e.0, not_before (claim_at s at).next left x e.1))
          | inr f ↦ apart (claim_at s at).next left x y e.1 f.1 l
        ]
      ]

  -- steps from a place on are among those of as many steps as are enough
  make : (at left : ℕ) → at < length s → among (steps_from s at (suc left)) at ≡ true
  unfolding steps_from
  make at left h = simp (lt-leb (length s) at h) (among_first at _)

  make_on : (at left x : ℕ) → at < length s → stands s at ≡ false → among (steps_from s (claim_at s at).next left) x ≡ true → among (steps_from s at (suc left)) x ≡ true
  unfolding steps_from
  make_on at left x h f k = simp (lt-leb (length s) at h) (simp f (among_rest at _ x k))

  fewer : (m n at x : ℕ) → length s - at ≤ n → among (steps_from s at m) x ≡ true → among (steps_from s at n) x ≡ true
  fewer zero n at x e h = absurd (no_steps at x h)
  fewer (suc m) zero at x e h = absurd (omega (arith, e, (among_steps at m x h).before_end))
  fewer (suc m) (suc n) at x e h =
      let a = among_steps at m x h in
      elim a.which [
        | inl f ↦ subst (λ (y : ℕ). among (steps_from s at (suc n)) y ≡ true) f (make at n a.before_end)
        | inr b ↦ make_on at n x a.before_end b.0 (fewer m n (claim_at s at).next x (omega (arith, e, moves at a.before_end b.0)) b.1)
      ]

  onward : (n at x m y : ℕ) → length s - at ≤ n → among (steps_from s at n) x ≡ true → among (steps_from s x m) y ≡ true → among (steps_from s at n) y ≡ true
  onward zero at x m y e h k = absurd (no_steps at x h)
  onward (suc n) at x m y e h k =
      let a = among_steps at n x h in
      elim a.which [
        | inl f ↦ fewer m (suc n) at y e (subst (λ (z : ℕ). among (steps_from s z m) y ≡ true) (sym f) k)
        | inr b ↦ make_on at n y a.before_end b.0 (onward n (claim_at s at).next x m y (omega (arith, e, moves at a.before_end b.0)) b.1 k)
      ]

  none_from : (at m y : ℕ) → length s ≤ at → among (steps_from s at m) y ≡ true → ⊥
  none_from at zero y h k = no_steps at y k
  none_from at (suc m) y h k = omega (arith, h, (among_steps at m y k).before_end)

  -- a walk from wherever one may stand makes steps of the walk from the start
  pub of_the_walk : (at m y : ℕ) → Reached s at → among (steps_from s at m) y ≡ true → among (steps s) y ≡ true
  unfolding steps
  of_the_walk at m y r k = elim r [
    | inl h ↦ onward (length s) 0 at m y (omega arith) h k
    | inr h ↦ absurd (none_from at m y h k)
  ]

-- two uploads whose claims are alike where these steps begin
module _ (s t : List ℕ) (long : length s ≡ length t) where
  stands_alike : (at : ℕ) → claim_at s at ≡ claim_at t at → stands s at ≡ stands t at
  stands_alike at e = ap (λ (c : Claimed). eqb c.next at) e

  from_turn : (at left : ℕ) → claim_at s at ≡ claim_at t at → (stand : Bool) → stands s at ≡ stand
      → (stand ≡ false → steps_from s (claim_at s at).next left ≡ steps_from t (claim_at s at).next left)
      → (if stand then [] else steps_from s (claim_at s at).next left) ≡ (if stands t at then [] else steps_from t (claim_at t at).next left)
  from_turn at left e true f on = let g : stands t at ≡ true = sym (stands_alike at e) ∙ f in simp g
  from_turn at left e false f on = let g : stands t at ≡ false = sym (stands_alike at e) ∙ f in simp g (on refl ∙ ap (λ (c : Claimed). steps_from t c.next left) e)

  from_by : (at left : ℕ) (end : Bool) → leb (length s) at ≡ end
      → (end ≡ false → (if stands s at then [] else steps_from s (claim_at s at).next left) ≡ (if stands t at then [] else steps_from t (claim_at t at).next left))
      → (if end then [] else at ∷ (if stands s at then [] else steps_from s (claim_at s at).next left))
      ≡ (if leb (length t) at then [] else at ∷ (if stands t at then [] else steps_from t (claim_at t at).next left))
  from_by at left true e on = let f : leb (length t) at ≡ true = ap (λ (n : ℕ). leb n at) (sym long) ∙ e in simp f
  from_by at left false e on = let f : leb (length t) at ≡ false = ap (λ (n : ℕ). leb n at) (sym long) ∙ e in simp f (ap (λ (l : List ℕ). at ∷ l) (on refl))

  from_alike : (left at : ℕ) → ((x : ℕ) → among (steps_from s at left) x ≡ true → claim_at s x ≡ claim_at t x) → steps_from s at left ≡ steps_from t at left
  unfolding steps_from
  from_alike zero at h = refl
  from_alike (suc left) at h =
      from_by at left (leb (length s) at) refl (λ e.
      let l : at < length s = leb-false (length s) at e in
      from_turn at left (h at (make s at left l)) (stands s at) refl (λ f. from_alike left (claim_at s at).next (λ x k. h x (make_on s at left x l f k))))

  cursor_alike : (at : ℕ) (made : List ℕ) → ((x : ℕ) → among made x ≡ true → claim_at s x ≡ claim_at t x) → cursor_after s at made ≡ cursor_after t at made
  unfolding cursor_after
  cursor_alike at [] h = refl
  cursor_alike at (x ∷ made) h = cursor_alike (claim_at s x).next made (λ y k. h y (among_rest x made y k)) ∙ ap (λ (c : Claimed). cursor_after t c.next made) (h x (among_first x made))

  pub any_alike : (f g : ℕ → Bool) (l : List ℕ) → ((x : ℕ) → among l x ≡ true → f x ≡ g x) → list_any f l ≡ list_any g l
  any_alike f g [] h = refl
  any_alike f g (x ∷ l) h = simp (h x (among_first x l), any_alike f g l (λ y k. h y (among_rest x l y k)))

  end_alike : (at : ℕ) (made : List ℕ) → ((x : ℕ) → among made x ≡ true → claim_at s x ≡ claim_at t x) → end_after s at made ≡ end_after t at made
  unfolding end_after
  end_alike at made h = simp (long, cursor_alike at made h, any_alike (stands s) (stands t) made (λ x k. stands_alike x (h x k)))

  bounded_alike : (at allowed : ℕ) → ((x : ℕ) → among (steps_from s at allowed) x ≡ true → claim_at s x ≡ claim_at t x) → bounded_walk s at allowed ≡ bounded_walk t at allowed
  unfolding bounded_walk
  bounded_alike at allowed h =
      let e = from_alike allowed at h in
      let made : List ℕ = steps_from s at allowed in
      let walked : Walked = record { steps = length made; cursor = cursor_after t at made; end = end_after t at made } in
      let same : record { steps = length made; cursor = cursor_after s at made; end = end_after s at made } ≡ walked = simp (cursor_alike at made h, end_alike at made h) in
      same ∙ ap (λ (l : List ℕ). record { steps = length l; cursor = cursor_after t at l; end = end_after t at l }) e

-- the bytes of a step's claim, and those of its entry, are alike
module _ (s t places : List ℕ) (d : DiffersInside s t places) where
  past_by : (p : ℕ) (large : Bool) → ltb limit (length s) ≡ large → IsWhole s p → p + le4 s p ≤ (claim_at s p).next
  unfolding claim_at
  past_by p true e w = simp (lt-leb (length s) p (omega (arith, w.four)), e) w.there
  past_by p false e w =
      simp (
        lt-leb (length s) p (omega (arith, w.four)),
        e,
        le-ltb (length s - p) 4 (omega (arith, w.four)),
        le-ltb (length s - p) (le4 s p) (omega (arith, w.there)),
      ) (omega arith)

  past_whole : (p : ℕ) → IsWhole s p → p + le4 s p ≤ (claim_at s p).next
  past_whole p w = past_by p (ltb limit (length s)) refl w

  -- a byte of a step's claim, or of its entry where that does not differ
  Near : ℕ → ℕ → Type 0
  Near at k = (k < at + 4) ⊎ ((among places at ≡ false) × (k < (claim_at s at).next))

  far : (at k p : ℕ) → among (steps s) at ≡ true → at ≤ k → Near at k → among places p ≡ true → p + 4 ≤ k → k < p + le4 s p → (p < at) ⊎ ((p ≡ at) ⊎ (at < p)) → ⊥
  unfolding steps Near
  far at k p h l near q a b c =
      let w = d.whole p q in
      let e = past_whole p w in
      elim c [
        | inl m ↦ omega (arith, apart s 0 (length s) p at w.reached h m, e, b, l)
        | inr c ↦ elim c [
          | inl m ↦ elim near [ inl n ↦ omega (arith, m, n, a) | inr n ↦ not_both (subst (λ (x : ℕ). among places x ≡ true) m q) n.0 ]
          | inr m ↦ elim near [ inl n ↦ omega (arith, m, n, a) | inr n ↦ omega (arith, apart s 0 (length s) at p h w.reached m, n.1, a) ]
        ]
      ]

  order : (p at : ℕ) → (p < at) ⊎ ((p ≡ at) ⊎ (at < p))
  order p at = by (ltb p at) (ltb at p) refl refl
    where
      by : (b c : Bool) → ltb p at ≡ b → ltb at p ≡ c → (p < at) ⊎ ((p ≡ at) ⊎ (at < p))
      by true c e f = inl (ltb-true p at e)
      by false true e f = inr (inr (ltb-true at p f))
      by false false e f = inr (inl (omega (arith, ltb-false p at e, ltb-false at p f)))

  byte : (at k : ℕ) → among (steps s) at ≡ true → at ≤ k → Near at k → k < length s → get_or s k 0 ≡ get_or t k 0
  byte at k h l near there = d.alike k there (λ p q a b. far at k p h l near q a b (order p at))

  claim_bytes : (at : ℕ) → among (steps s) at ≡ true → at + 4 ≤ length s → le4 s at ≡ le4 t at
  unfolding le4 Near
  claim_bytes at h l =
      rw (
        byte at at h (omega arith) (inl (omega arith)) (omega arith),
        byte at (at + 1) h (omega arith) (inl (omega arith)) (omega arith),
        byte at (at + 2) h (omega arith) (inl (omega arith)) (omega arith),
        byte at (at + 3) h (omega arith) (inl (omega arith)) (omega arith),
      ) refl

  claim_by : (at : ℕ) (end large short : Bool) → leb (length s) at ≡ end → ltb limit (length s) ≡ large → ltb (length s - at) 4 ≡ short → Reached s at → claim_at s at ≡ claim_at t at
  unfolding claim_at
  claim_by at true large short e f g r = simp (← d.long, e)
  claim_by at false true short e f g r = simp (← d.long, e, f)
  claim_by at false false true e f g r = simp (← d.long, e, f, g)
  claim_by at false false false e f g (inr r) = absurd (omega (arith, r, leb-false (length s) at e))
  claim_by at false false false e f g (inl r) =
      let c = claim_bytes at r (omega (arith, leb-false (length s) at e, ltb-false (length s - at) 4 g)) in
      simp (← d.long, e, f, g, c)

  claim_alike : (at : ℕ) → Reached s at → claim_at s at ≡ claim_at t at
  claim_alike at r = claim_by at (leb (length s) at) (ltb limit (length s)) (ltb (length s - at) 4) refl refl refl r

  own_alike : (at size : ℕ) → among (steps s) at ≡ true → among places at ≡ false → (claim_at s at).size ≡ Some (Ok size) → part s at size ≡ part t at size
  unfolding Near
  own_alike at size h off c =
      let m = meets s at size c in
      let l = length_part s at size m.room in
      let n = length_part t at size (omega (arith, m.room, d.long)) in
      ext_get_or 0 (part s at size) (part t at size) (l ∙ sym n) (λ i j.
      let k : i < size = omega (arith, j, l) in
      get_d_part s at size i 0 k ∙ byte at (at + i) h (omega arith) (inr (off, omega (arith, m.next, k))) (omega (arith, m.room, k)) ∙ sym (get_d_part t at size i 0 k))

  begin_alike : steps s ≡ steps t
  unfolding steps
  begin_alike = from_alike s t d.long (length s) 0 (λ x k. claim_alike x (inl k)) ∙ ap (steps_from t 0) d.long

  bounded_both : (at allowed : ℕ) → Reached s at → bounded_walk s at allowed ≡ bounded_walk t at allowed
  bounded_both at allowed r = bounded_alike s t d.long at allowed (λ x k. claim_alike x (inl (of_the_walk s at allowed x r k)))

  same_claim : (p : ℕ) → among places p ≡ true → le4 s p ≡ le4 t p
  same_claim p q = let w = d.whole p q in claim_bytes p w.reached w.four

  turned_whole : (p : ℕ) → among places p ≡ true → IsWhole t p
  turned_whole p q =
      let w = d.whole p q in
      let e = same_claim p q in
      record {
        reached = subst (λ (l : List ℕ). among l p ≡ true) begin_alike w.reached;
        four = omega (arith, w.four, d.long);
        some = omega (arith, w.some, e);
        there = omega (arith, w.there, e, d.long);
      }

  turned : DiffersInside t s places
  turned =
      record {
        long = sym d.long;
        whole = λ p q. turned_whole p q;
        alike = λ k l off. sym (d.alike k (omega (arith, l, d.long)) (λ p q a b. off p q a (omega (arith, b, same_claim p q))));
      }

pub walked_alike : WalkedAlike
walked_alike s t places d = record {
  begin = begin_alike s t places d;
  claim = claim_alike s t places d;
  bounded = bounded_both s t places d;
  own = own_alike s t places d;
  turned = turned s t places d;
}

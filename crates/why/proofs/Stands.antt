-- Records one behind another: where so many end, and where a list of them stops.
use Rattle.std.proofs.Common.{◌≡◌, ◌⊎◌, inl, inr, ℕ, zero, suc, ◌+◌, ◌-◌, ◌<◌, ◌≤◌, true, List, length, drop, refl, ap, arith, length-drop, drop-drop, subst}
use Rattle.attribute.specs.Laid as attribute
use Rattle.attribute.specs.Laid.{here, behind}
use Rattle.refactor.specs.Laid as refactor
use Rattle.refactor.specs.Laid.{here as record_here, behind as record_behind}

-- attributes: a list of so many at most stops at its count, or where no whole one stands
module _ (s : List ℕ) where
  abbrev pub Stops : ℕ → ℕ → ℕ → Type 0
  Stops before to most = (before ≡ most) ⊎ (length (drop to s) < attribute.size (drop to s))

  less : (before to most : ℕ) → Stops (suc before) to most → Stops before to (most - 1)
  less before to most (inl h) = inl (omega arith)
  less before to most (inr h) = inr h

  none_more : (from before most : ℕ) → Stops zero from most → suc before ≤ most → attribute.size (drop from s) ≤ length (drop from s) → ⊥
  none_more from before most (inl h) l t = omega arith
  none_more from before most (inr h) l t = omega arith

  pub one_stop : (from at to n m most : ℕ) → attribute.Stands s from at n → attribute.Stands s from to m → n ≤ most → m ≤ most → Stops n at most → Stops m to most → (n ≡ m) × (at ≡ to)
  one_stop from at to zero zero most here here l k p q = (refl, refl)
  one_stop from at to zero (suc m) most here (behind t u) l k p q = absurd (none_more from m most p k t)
  one_stop from at to (suc n) zero most (behind t u) here l k p q = absurd (none_more from n most q l t)
  one_stop from at to (suc n) (suc m) most (behind t u) (behind v w) l k p q =
      let r = one_stop (from + attribute.size (drop from s)) at to n m (most - 1) u w (omega arith) (omega arith) (less n at most p) (less m to most q) in
      (ap suc r.0, r.1)

  -- they lie within
  pub stand_within : (from at n : ℕ) → attribute.Stands s from at n → from ≤ length s → at ≤ length s
  stand_within from at zero here l = l
  stand_within from at (suc n) (behind t u) l = stand_within (from + attribute.size (drop from s)) at n u (let d = length-drop from s in omega arith)

  -- those that stand in the bytes from a place on stand in all of them
  pub stand_further : (a from at n : ℕ) → attribute.Stands (drop a s) from at n → attribute.Stands s (a + from) (a + at) n
  stand_further a from at zero here = here
  stand_further a from at (suc n) (behind t u) =
      let d : drop from (drop a s) ≡ drop (a + from) s = drop-drop from a s in
      let t' = subst (λ (x : List ℕ). attribute.size x ≤ length x) d t in
      let z : a + (from + attribute.size (drop from (drop a s))) ≡ a + from + attribute.size (drop (a + from) s) = let y = ap attribute.size d in omega (arith, y) in
      behind t' (subst (λ (x : ℕ). attribute.Stands s x (a + at) n) z (stand_further a (from + attribute.size (drop from (drop a s))) at n u))

-- refactor records: a chain stops where none stands that is whole and followed
module _ (s : List ℕ) where
  abbrev pub ChainStops : ℕ → Type 0
  ChainStops at = refactor.size (drop at s) ≤ length (drop at s) → refactor.followed (drop at s) ≡ true → ⊥

  pub one_chain_stop : (from at to n m : ℕ) → refactor.Stands s from at n → refactor.Stands s from to m → ChainStops at → ChainStops to → (n ≡ m) × (at ≡ to)
  one_chain_stop from at to zero zero record_here record_here p q = (refl, refl)
  one_chain_stop from at to zero (suc m) record_here (record_behind t b u) p q = absurd (p t b)
  one_chain_stop from at to (suc n) zero (record_behind t b u) record_here p q = absurd (q t b)
  one_chain_stop from at to (suc n) (suc m) (record_behind t b u) (record_behind v c w) p q =
      let r = one_chain_stop (from + refactor.size (drop from s)) at to n m u w p q in
      (ap suc r.0, r.1)

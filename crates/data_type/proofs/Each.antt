-- What holds of each member of an entry that was read.
use Rattle.std.proofs.Common.{ℕ, zero, suc, ◌+◌, ◌-◌, ◌<◌, ◌≤◌, ◌≡◌, refl, sym, ap, ap₂, subst, ◌∙◌, List, [], ◌∷◌, ◌++◌, length, take, drop, set, get_or, replicate, arith, length-set, drop-drop}
use native.Mathlib.Nat.{zero-add, add_assoc}
use Rattle.std.specs.Prelude.{Some, slice_get}
use Rattle.std.proofs.Math.Seq.{take-suc-set}
use borrow.Author.Tests.{lt-ltb, eq-eqb, ne_eqb}
use Rattle.le.specs.Le.{le4}
use Rattle.data_type.specs.declared.members.Member.{Member}
use Rattle.data_type.specs.declared.members.Position.{Position}
use Rattle.data_type.specs.Members.{below, place_of}
use Rattle.data_type.specs.Meaning.{path_of, offsets_at, among, IsAt, Between}

-- a property of each
pub data Each (P : Member → Type 0) : List Member → Type 0 where
  none : Each P []
  more : {m : Member} {ms : List Member} → P m → Each P ms → Each P (m ∷ ms)

pub each_append : {P : Member → Type 0} {ms rest : List Member} → Each P ms → Each P rest → Each P (ms ++ rest)
each_append none y = y
each_append (more p x) y = more p (each_append x y)

pub each_get : {P : Member → Type 0} {ms : List Member} → Each P ms → (k : ℕ) (m : Member) → slice_get ms k ≡ Some m → P m
each_get none k m h = cc h
each_get {P} (more {m = x} p y) zero m h = let s : x ≡ m = cc h in subst P s p
each_get (more p y) (suc k) m h = each_get y k m h

pub each_map : {P Q : Member → Type 0} {ms : List Member} → ((m : Member) → P m → Q m) → Each P ms → Each Q ms
each_map f none = none
each_map f (more p x) = more (f _ p) (each_map f x)

-- a path with one place more
offsets_more : (s path : List ℕ) (place : ℕ) → offsets_at s (path ++ (place ∷ [])) ≡ offsets_at s path + le4 s (place + 20)
unfolding offsets_at
offsets_more s [] place = omega arith
offsets_more s (p ∷ path) place = let h = offsets_more s path place in omega arith

drop_past_set : (n : ℕ) (xs : List ℕ) (i x : ℕ) → i < n → drop n (set xs i x) ≡ drop n xs
drop_past_set zero xs i x h = absurd (omega arith)
drop_past_set (suc n) [] i x h = refl
drop_past_set (suc n) (y ∷ xs) zero x h = refl
drop_past_set (suc n) (y ∷ xs) (suc i) x h = drop_past_set n xs i x (omega arith)

pub get_set : (xs : List ℕ) (i x d : ℕ) → i < length xs → get_or (set xs i x) i d ≡ x
get_set [] i x d h = absurd (omega arith)
get_set (y ∷ xs) zero x d h = refl
get_set (y ∷ xs) (suc i) x d h = get_set xs i x d (omega arith)

drop_zeros : (n : ℕ) → drop {A = ℕ} 1 (replicate n 0) ≡ replicate (n - 1) 0
drop_zeros zero = refl
drop_zeros (suc n) = let z : suc n - 1 ≡ n = omega arith in rw z refl

-- one step down
module _ (s : List ℕ) (p : Position) (a : IsAt s p) (deep : p.depth ≤ 15) (place offset : ℕ) where
  abbrev q : Position
  q = below p place offset

  below_is : q ≡ record { path = set p.path (p.depth - 1) place; depth = p.depth + 1; offset = p.offset + offset }
  unfolding below
  below_is = simp (lt-ltb p.depth 16 (omega arith))

  pub depth_below : q.depth ≡ p.depth + 1
  depth_below = ap (λ (x : Position). x.depth) below_is

  pub place_below : place_of q ≡ place
  place_below =
      let n : p.depth + 1 - 2 ≡ p.depth - 1 = omega (arith, a.least) in
      ap place_of below_is ∙ ap (λ (i : ℕ). get_or (set p.path (p.depth - 1) place) i 0) n ∙ get_set p.path (p.depth - 1) place 0 (omega (arith, a.long, a.least))

  path_below : path_of q ≡ path_of p ++ (place ∷ [])
  path_below =
      let n : p.depth + 1 - 1 ≡ suc (p.depth - 1) = omega (arith, a.least) in
      ap path_of below_is ∙ ap (λ (i : ℕ). take i (set p.path (p.depth - 1) place)) n ∙ take-suc-set p.path (p.depth - 1) place (omega (arith, a.long, a.least))

  zeros_below : drop (p.depth + 1 - 1) (set p.path (p.depth - 1) place) ≡ replicate (16 - (p.depth + 1)) 0
  zeros_below =
      let n : p.depth + 1 - 1 ≡ p.depth - 1 + 1 = omega (arith, a.least) in
      let m : 16 - p.depth - 1 ≡ 16 - (p.depth + 1) = omega arith in
      drop_past_set (p.depth + 1 - 1) p.path (p.depth - 1) place (omega (arith, a.least)) ∙ ap (λ (i : ℕ). drop i p.path) n ∙ sym (drop-drop 1 (p.depth - 1) p.path) ∙ ap (drop 1) a.zeros ∙ drop_zeros (16 - p.depth) ∙ ap (λ (i : ℕ). replicate i 0) m

  pub at_below : offset ≡ le4 s (place + 20) → IsAt s q
  at_below h =
      record {
        long = ap (λ (x : Position). length x.path) below_is ∙ length-set p.path (p.depth - 1) place ∙ a.long;
        least = omega (arith, depth_below);
        zeros = ap (λ (x : Position). drop (x.depth - 1) x.path) below_is ∙ zeros_below ∙ ap (λ (x : Position). replicate (16 - x.depth) 0) (sym below_is);
        sum = ap (λ (x : Position). x.offset) below_is ∙ ap₂ (λ (x y : ℕ). x + y) a.sum h ∙ sym (offsets_more s (path_of p) place) ∙ ap (offsets_at s) (sym path_below);
      }

-- places: earlier to begin with, and one after another
pub sooner : (from other to : ℕ) (ms : List Member) → other ≤ from → Between from to ms → Between other to ms
unfolding Between
sooner from other to [] h b = omega arith
sooner from other to (m ∷ ms) h b = (omega (arith, b.0), b.1)

pub both : (from middle to : ℕ) (ms rest : List Member) → Between from middle ms → Between middle to rest → Between from to (ms ++ rest)
unfolding Between
both from middle to [] rest a b = sooner middle from to rest a b
both from middle to (m ∷ ms) rest a b = (a.0, both (place_of m.position + 1) middle to ms rest a.1 b)

-- the sub-items themselves, counted
pub among_append : (d : ℕ) (ms rest : List Member) → among d (ms ++ rest) ≡ among d ms + among d rest
unfolding among
among_append d [] rest = sym (zero-add (among d rest))
among_append d (m ∷ ms) rest = simp (among_append d ms rest) (sym (add_assoc _ (among d ms) (among d rest)))

pub none_among : (d : ℕ) {ms : List Member} → Each (λ m. d < m.position.depth) ms → among d ms ≡ 0
unfolding among
none_among d none = refl
none_among d (more {m = m} h x) = let z : (m.position.depth ≡ d) → ⊥ = λ e. omega (arith, h, e) in simp (ne_eqb m.position.depth d z, none_among d x)

pub one_among : (d : ℕ) (m : Member) (ms : List Member) → m.position.depth ≡ d → among d (m ∷ ms) ≡ 1 + among d ms
unfolding among
one_among d m ms h = simp (eq-eqb m.position.depth d h)

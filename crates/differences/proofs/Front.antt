-- The first byte in which two runs differ: proved.
use Rattle.std.proofs.Common.{ℕ, ◌+◌, ◌<◌, ◌≤◌, ◌≡◌, ◌≢◌, ◌^◌, ◌⊎◌, inl, inr, refl, sym, ap, ap₂, subst, ◌∙◌, Bool, true, false, eqb-true, eq-eqb, ne_eqb, List, [], ◌∷◌, ◌++◌, length, get_or, drop, min, drop-cons, add-one, length-append, arith, Some, None}
use Rattle.std.specs.Prelude.{Option, ◌==◌, if◌then◌else◌, slice_get}
use Rattle.std.proofs.lemmas.Bool.{eqb-false}
use Rattle.std.proofs.lemmas.List.{drop_all}
use Rattle.std.proofs.lemmas.Option.{slice_get_past, slice_get-get_or}
use Rattle.std.proofs.Math.Seq.{get_or-append_seam}
use Rattle.values.specs.declared.Value.{Value}
use Rattle.values.specs.declared.Value.TheVariants.{Bytes}
use Rattle.differences.specs.First.{common, placed, first_by, first_byte}
use Rattle.differences.specs.Meant.{FirstApart}
use Rattle.differences.specs.Meant as meant

pub drop_at : (s : List ℕ) (k : ℕ) → k < length s → drop k s ≡ get_or s k 0 ∷ drop (k + 1) s
drop_at s k h = rw (add-one, drop-cons s k 0) refl

common_at : (xs ys : List ℕ) (k : ℕ) → k < length xs → k < length ys
    → common (drop k xs) (drop k ys) ≡ (if get_or xs k 0 == get_or ys k 0 then common (drop (k + 1) xs) (drop (k + 1) ys) + 1 else 0)
unfolding common
common_at xs ys k h g = ap₂ common (drop_at xs k h) (drop_at ys k g)

-- a byte more that is alike, one that is not, and the end
pub common_more : (xs ys : List ℕ) (k : ℕ) → k < length xs → k < length ys → get_or xs k 0 ≡ get_or ys k 0
    → (k + 1) + common (drop (k + 1) xs) (drop (k + 1) ys) ≡ k + common (drop k xs) (drop k ys)
common_more xs ys k h g e =
    let c : common (drop k xs) (drop k ys) ≡ common (drop (k + 1) xs) (drop (k + 1) ys) + 1 = common_at xs ys k h g ∙ ap (λ (b : Bool). if b then common (drop (k + 1) xs) (drop (k + 1) ys) + 1 else 0) (eq-eqb (get_or xs k 0) (get_or ys k 0) e) in
    omega (arith, c)

pub common_apart : (xs ys : List ℕ) (k : ℕ) → k < length xs → k < length ys → get_or xs k 0 ≢ get_or ys k 0 → k + common (drop k xs) (drop k ys) ≡ k
common_apart xs ys k h g e =
    let c : common (drop k xs) (drop k ys) ≡ 0 = common_at xs ys k h g ∙ ap (λ (b : Bool). if b then common (drop (k + 1) xs) (drop (k + 1) ys) + 1 else 0) (ne_eqb (get_or xs k 0) (get_or ys k 0) e) in
    omega (arith, c)

none_left : (xs ys : List ℕ) → common xs [] ≡ 0
unfolding common
none_left [] ys = refl
none_left (x ∷ xs) ys = refl

none_ours : (ys : List ℕ) → common [] ys ≡ 0
unfolding common
none_ours ys = refl

pub common_end : (xs ys : List ℕ) (k : ℕ) → k ≡ min (length xs) (length ys) → k + common (drop k xs) (drop k ys) ≡ k
common_end xs ys k h = by (leb_of (length xs) (length ys))
  where
    leb_of : (m n : ℕ) → (m ≤ n) ⊎ (n ≤ m)
    leb_of m n = grind arith

    by : (length xs ≤ length ys) ⊎ (length ys ≤ length xs) → k + common (drop k xs) (drop k ys) ≡ k
    by (inl w) = let z : common (drop k xs) (drop k ys) ≡ 0 = ap (λ (q : List ℕ). common q (drop k ys)) (drop_all k xs (omega arith)) ∙ none_ours (drop k ys) in omega (arith, z)
    by (inr w) = let z : common (drop k xs) (drop k ys) ≡ 0 = ap (λ (q : List ℕ). common (drop k xs) q) (drop_all k ys (omega arith)) ∙ none_left (drop k xs) [] in omega (arith, z)

-- two runs, and how many bytes they have alike at their front
data Splits (xs ys : List ℕ) : ℕ → Type 0 where
  apart : (same : List ℕ) (x y : ℕ) (more others : List ℕ) → xs ≡ same ++ (x ∷ more) → ys ≡ same ++ (y ∷ others) → x ≢ y → Splits xs ys (length same)
  ours_ends : (more : List ℕ) → ys ≡ xs ++ more → Splits xs ys (length xs)
  theirs_ends : (more : List ℕ) → xs ≡ ys ++ more → Splits xs ys (length ys)

longer : (x y : ℕ) (xs ys : List ℕ) (k : ℕ) → x ≡ y → Splits xs ys k → Splits (x ∷ xs) (y ∷ ys) (k + 1)
longer x y xs ys _ h (apart same a b more others p q n) =
    subst (λ (k : ℕ). Splits (x ∷ xs) (y ∷ ys) k) (sym (add-one (length same)))
    (apart (x ∷ same) a b more others (ap (λ (l : List ℕ). x ∷ l) p) (ap₂ (λ (c : ℕ) (l : List ℕ). c ∷ l) (sym h) q) n)
longer x y xs ys _ h (ours_ends more p) =
    subst (λ (k : ℕ). Splits (x ∷ xs) (y ∷ ys) k) (sym (add-one (length xs))) (ours_ends more (ap₂ (λ (c : ℕ) (l : List ℕ). c ∷ l) (sym h) p))
longer x y xs ys _ h (theirs_ends more p) =
    subst (λ (k : ℕ). Splits (x ∷ xs) (y ∷ ys) k) (sym (add-one (length ys))) (theirs_ends more (ap₂ (λ (c : ℕ) (l : List ℕ). c ∷ l) h p))

splits : (xs ys : List ℕ) → Splits xs ys (common xs ys)
unfolding common
splits [] ys = ours_ends ys refl
splits (x ∷ xs) [] = theirs_ends (x ∷ xs) refl
splits (x ∷ xs) (y ∷ ys) = by (x == y) refl (splits xs ys)
  where
    by : (b : Bool) → (x == y) ≡ b → Splits xs ys (common xs ys) → Splits (x ∷ xs) (y ∷ ys) (if b then common xs ys + 1 else 0)
    by true e on = longer x y xs ys (common xs ys) (eqb-true x y e) on
    by false e on = apart [] x y xs ys refl refl (eqb-false x y e)

seam : (all before : List ℕ) (b : ℕ) (more : List ℕ) → all ≡ before ++ (b ∷ more) → (slice_get all (length before) ≡ Some b) × (length before < length all)
seam all before b more h =
    rw h (slice_get-get_or (before ++ (b ∷ more)) (length before) b (simp length-append (omega arith)) ∙ ap Some (get_or-append_seam before b more b), simp length-append (omega arith))

ended : (at to m n : ℕ) (o : Option ℕ) → first_by at to m n o None ≡ (Bytes m, Bytes n)
ended at to m n (Some b) = refl
ended at to m n None = refl

by_split : (at to : ℕ) (xs ys : List ℕ) → at + length xs < 2 ^ 64 → to + length ys < 2 ^ 64 → (k : ℕ) → Splits xs ys k
    → let p : Value × Value = first_by (placed at k) (placed to k) (length xs) (length ys) (slice_get xs k) (slice_get ys k) in FirstApart at to xs ys p.0 p.1
by_split at to xs ys f g _ (apart same x y more others p q n) =
    let a = seam xs same x more p in
    let b = seam ys same y others q in
    let i : placed at (length same) ≡ at + length same = omega (arith, a.1) in
    let j : placed to (length same) ≡ to + length same = omega (arith, b.1) in
    rw (a.0, b.0, i, j) (meant.FirstApart.byte same x y more others p q n)
by_split at to xs ys f g _ (ours_ends more p) = rw (slice_get_past xs (length xs) (omega arith)) (meant.FirstApart.goes_on more p)
by_split at to xs ys f g _ (theirs_ends more p) =
    rw (slice_get_past ys (length ys) (omega arith), ended (placed at (length ys)) (placed to (length ys)) (length xs) (length ys) (slice_get xs (length ys))) (meant.FirstApart.goes_on_in_a more p)

pub first_apart : (at to : ℕ) (xs ys : List ℕ) → at + length xs < 2 ^ 64 → to + length ys < 2 ^ 64 → let p : Value × Value = first_byte at xs to ys in FirstApart at to xs ys p.0 p.1
unfolding first_byte
first_apart at to xs ys f g = by_split at to xs ys f g (common xs ys) (splits xs ys)

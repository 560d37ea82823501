-- Halving ends where those that come before end, if they stand before all others.
use Rattle.std.proofs.Common.{ℕ, zero, suc, ◌+◌, ◌-◌, ◌/◌, ◌<◌, ◌≤◌, ◌≡◌, refl, sym, ap, subst, ◌∙◌, Bool, true, false, ltb, List, [], ◌∷◌, length, get_or, take, drop, arith, length-take, length-drop, if◌then◌else◌}
use borrow.Author.Tests.{ltb-true, ltb-false}
use Rattle.std.specs.List.Sorted.{IsPartitionedBy, IsPartitionPoint}
use Rattle.std.proofs.lemmas.List.{get_or-drop, get_or-take, get_or_default}
use Rattle.le.specs.Le.{part}
use Rattle.le.proofs.Laws.{not_both, part_rest}
use Rattle.name_order.specs.Halving.{halve, halved}

module _ (before : ℕ → Bool) where
  -- more turns change nothing
  pub enough : (n m : ℕ) (xs : List ℕ) → length xs ≤ n → length xs ≤ m → halve before n xs ≡ halve before m xs
  unfolding halve
  enough zero zero xs h k = refl
  enough zero (suc m) (x ∷ xs) h k = absurd (omega arith)
  enough (suc n) zero (x ∷ xs) h k = absurd (omega arith)
  enough zero (suc m) [] h k = refl
  enough (suc n) zero [] h k = refl
  enough (suc n) (suc m) [] h k = refl
  enough (suc n) (suc m) (x ∷ xs) h k =
      let all : List ℕ = x ∷ xs in
      let middle : ℕ = length all / 2 in
      let small : middle < length all = omega arith in
      rw (enough n m (drop (middle + 1) all) (omega (arith, length-drop (middle + 1) all)) (omega (arith, length-drop (middle + 1) all)), enough n m (take middle all) (omega (arith, length-take middle all)) (omega (arith, length-take middle all))) refl

  -- one turn
  pub turned : (xs : List ℕ) → 0 < length xs
      → halved before xs ≡ (if before (get_or xs (length xs / 2) 0) then length xs / 2 + 1 + halved before (drop (length xs / 2 + 1) xs) else halved before (take (length xs / 2) xs))
  unfolding halve
  turned [] h = absurd (omega arith)
  turned (x ∷ xs) h =
      let all : List ℕ = x ∷ xs in
      let middle : ℕ = length all / 2 in
      let small : middle < length all = omega arith in
      rw (enough (length xs) (length (drop (middle + 1) all)) (drop (middle + 1) all) (omega (arith, length-drop (middle + 1) all)) (omega arith), enough (length xs) (length (take middle all)) (take middle all) (omega (arith, length-take middle all)) (omega arith)) refl

  -- a turn that goes on behind, and one that goes on before
  pub went_behind : (n : ℕ) (xs starts : List ℕ) → 0 < length xs → before (get_or xs (length xs / 2) 0) ≡ true → n + halved before xs ≡ halved before starts
      → n + (length xs / 2 + 1) + halved before (take (length xs - (length xs / 2 + 1)) (drop (length xs / 2 + 1) xs)) ≡ halved before starts
  unfolding part
  went_behind n xs starts h t e =
      let whole : take (length xs - (length xs / 2 + 1)) (drop (length xs / 2 + 1) xs) ≡ drop (length xs / 2 + 1) xs = part_rest xs (length xs / 2 + 1) (length xs - (length xs / 2 + 1)) (omega arith) in
      let turn : halved before xs ≡ length xs / 2 + 1 + halved before (drop (length xs / 2 + 1) xs) = turned xs h ∙ ap (λ (b : Bool). if b then length xs / 2 + 1 + halved before (drop (length xs / 2 + 1) xs) else halved before (take (length xs / 2) xs)) t in
      rw whole (omega (arith, turn, e))

  pub went_before : (n : ℕ) (xs starts : List ℕ) → 0 < length xs → before (get_or xs (length xs / 2) 0) ≡ false → n + halved before xs ≡ halved before starts
      → n + halved before (take (length xs / 2) xs) ≡ halved before starts
  went_before n xs starts h t e =
      let turn : halved before xs ≡ halved before (take (length xs / 2) xs) = turned xs h ∙ ap (λ (b : Bool). if b then length xs / 2 + 1 + halved before (drop (length xs / 2 + 1) xs) else halved before (take (length xs / 2) xs)) t in
      omega (arith, turn, e)

  pub ended : (n : ℕ) (xs starts : List ℕ) → length xs ≡ 0 → n + halved before xs ≡ halved before starts → n ≡ halved before starts
  unfolding halve
  ended n [] starts h e = omega (arith, e)
  ended n (x ∷ xs) starts h e = absurd (omega arith)

  pub within : (n : ℕ) (xs : List ℕ) → halve before n xs ≤ length xs
  unfolding halve
  within zero xs = omega arith
  within (suc n) [] = omega arith
  within (suc n) (x ∷ xs) =
      by (within n (drop (length (x ∷ xs) / 2 + 1) (x ∷ xs))) (within n (take (length (x ∷ xs) / 2) (x ∷ xs))) (before (get_or (x ∷ xs) (length (x ∷ xs) / 2) 0))
    where
      by : halve before n (drop (length (x ∷ xs) / 2 + 1) (x ∷ xs)) ≤ length (drop (length (x ∷ xs) / 2 + 1) (x ∷ xs)) → halve before n (take (length (x ∷ xs) / 2) (x ∷ xs)) ≤ length (take (length (x ∷ xs) / 2) (x ∷ xs)) → (t : Bool)
          → (if t then length (x ∷ xs) / 2 + 1 + halve before n (drop (length (x ∷ xs) / 2 + 1) (x ∷ xs)) else halve before n (take (length (x ∷ xs) / 2) (x ∷ xs))) ≤ length (x ∷ xs)
      by a b true = omega (arith, a, length-drop (length (x ∷ xs) / 2 + 1) (x ∷ xs))
      by a b false = omega (arith, b, length-take (length (x ∷ xs) / 2) (x ∷ xs))

  abbrev Parts : List ℕ → ℕ → Type 0
  Parts xs i = IsPartitionPoint (λ x. before x ≡ true) (λ x. before x ≡ false) xs i

  shifted : (xs : List ℕ) (n k d : ℕ) → n ≤ k → get_or (drop n xs) (k - n) d ≡ get_or xs k d
  shifted xs n k d h = let e : n + (k - n) ≡ k = omega arith in get_or-drop n xs (k - n) d ∙ ap (λ (i : ℕ). get_or xs i d) e

  behind : (xs : List ℕ) (m : ℕ) → m < length xs → IsPartitionedBy before xs → before (get_or xs m 0) ≡ true → (i : ℕ) → Parts (drop (m + 1) xs) i → Parts xs (m + 1 + i)
  behind xs m h up t i p =
      (λ k d l s. low k d s (ltb m k) refl, λ k d l s. let e : before (get_or (drop (m + 1) xs) (k - (m + 1)) d) ≡ false = p.1 (k - (m + 1)) d (omega arith) (omega (arith, length-drop (m + 1) xs)) in ap before (sym (shifted xs (m + 1) k d (omega arith))) ∙ e)
    where
      low : (k d : ℕ) → k < m + 1 + i → (b : Bool) → ltb m k ≡ b → before (get_or xs k d) ≡ true
      low k d s true e = let l : m < k = ltb-true m k e in ap before (sym (shifted xs (m + 1) k d (omega arith))) ∙ p.0 (k - (m + 1)) d (omega arith) (omega arith)
      low k d s false e = let l : k ≤ m = ltb-false m k e in up k m d l h (ap before (get_or_default xs m d 0 h) ∙ t)

  front : (xs : List ℕ) (m : ℕ) → m < length xs → IsPartitionedBy before xs → before (get_or xs m 0) ≡ false → (i : ℕ) → i ≤ m → Parts (take m xs) i → Parts xs i
  front xs m h up t i w p =
      (λ k d l s. let q : k < m = omega arith in ap before (sym (get_or-take m xs k d q)) ∙ p.0 k d l s, λ k d l s. high k d l s (ltb k m) refl)
    where
      none : (k d : ℕ) → m ≤ k → k < length xs → (b : Bool) → before (get_or xs k d) ≡ b → b ≡ false
      none k d l s false e = refl
      none k d l s true e = absurd (not_both (up m k d l s e) (ap before (get_or_default xs m d 0 h) ∙ t))

      high : (k d : ℕ) → i ≤ k → k < length xs → (b : Bool) → ltb k m ≡ b → before (get_or xs k d) ≡ false
      high k d l s true e = let q : k < m = ltb-true k m e in ap before (sym (get_or-take m xs k d q)) ∙ p.1 k d l (omega (arith, length-take m xs))
      high k d l s false e = let q : m ≤ k = ltb-false k m e in none k d q s (before (get_or xs k d)) refl

  part_up : (xs : List ℕ) (m : ℕ) → m ≤ length xs → IsPartitionedBy before xs → IsPartitionedBy before (take m xs)
  part_up xs m w up i j d l h t =
      let n : j < m = omega (arith, length-take m xs) in
      let k : i < m = omega arith in
      ap before (get_or-take m xs i d k) ∙ up i j d l (omega arith) (ap before (sym (get_or-take m xs j d n)) ∙ t)

  rest_up : (xs : List ℕ) (m : ℕ) → m ≤ length xs → IsPartitionedBy before xs → IsPartitionedBy before (drop m xs)
  rest_up xs m w up i j d l h t = ap before (get_or-drop m xs i d) ∙ up (m + i) (m + j) d (omega arith) (omega (arith, length-drop m xs)) (ap before (sym (get_or-drop m xs j d)) ∙ t)

  pub parted : (n : ℕ) (xs : List ℕ) → length xs ≤ n → IsPartitionedBy before xs → Parts xs (halve before n xs)
  unfolding halve
  parted zero [] h up = (λ k d l s. absurd (omega arith), λ k d l s. absurd (omega arith))
  parted zero (x ∷ xs) h up = absurd (omega arith)
  parted (suc n) [] h up = (λ k d l s. absurd (omega arith), λ k d l s. absurd (omega arith))
  parted (suc n) (x ∷ xs) h up =
      let all : List ℕ = x ∷ xs in
      let middle : ℕ = length all / 2 in
      let small : middle < length all = omega arith in
      let later : Parts (drop (middle + 1) all) (halve before n (drop (middle + 1) all)) = parted n (drop (middle + 1) all) (omega (arith, length-drop (middle + 1) all)) (rest_up all (middle + 1) (omega arith) up) in
      let sooner : Parts (take middle all) (halve before n (take middle all)) = parted n (take middle all) (omega (arith, length-take middle all)) (part_up all middle (omega arith) up) in
      by small later sooner (before (get_or (x ∷ xs) (length (x ∷ xs) / 2) 0)) refl
    where
      by : length (x ∷ xs) / 2 < length (x ∷ xs) → Parts (drop (length (x ∷ xs) / 2 + 1) (x ∷ xs)) (halve before n (drop (length (x ∷ xs) / 2 + 1) (x ∷ xs))) → Parts (take (length (x ∷ xs) / 2) (x ∷ xs)) (halve before n (take (length (x ∷ xs) / 2) (x ∷ xs))) → (t : Bool) → before (get_or (x ∷ xs) (length (x ∷ xs) / 2) 0) ≡ t
          → Parts (x ∷ xs) (if t then length (x ∷ xs) / 2 + 1 + halve before n (drop (length (x ∷ xs) / 2 + 1) (x ∷ xs)) else halve before n (take (length (x ∷ xs) / 2) (x ∷ xs)))
      by small later sooner true e = behind (x ∷ xs) (length (x ∷ xs) / 2) small up e _ later
      by small later sooner false e = front (x ∷ xs) (length (x ∷ xs) / 2) small up e _ (omega (arith, within n (take (length (x ∷ xs) / 2) (x ∷ xs)), length-take (length (x ∷ xs) / 2) (x ∷ xs))) sooner

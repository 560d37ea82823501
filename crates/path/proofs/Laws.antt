-- Counting and reading on from a place.
use Rattle.std.proofs.Common.{ℕ, suc, ◌+◌, ◌<◌, ◌≤◌, ◌≡◌, refl, ap, ◌∙◌, Bool, true, false, List, ◌∷◌, length, get_or, drop, drop-cons, add-one, arith}
use Rattle.std.specs.List.{prefix_len}
use Rattle.std.proofs.lemmas.List.{drop_all}
use Rattle.std.proofs.lemmas.List.Sums.{prefix_len-drop_all, prefix_len-drop_no}
use Rattle.path.specs.Path.{value, next_value}

module _ (p : ℕ → Bool) where
  cons_passes : (x : ℕ) (xs : List ℕ) → p x ≡ true → prefix_len p (x ∷ xs) ≡ 1 + prefix_len p xs
  cons_passes x xs h = simp h refl

  -- one more passes; this one does not; none is left
  pub count_more : (s : List ℕ) (n : ℕ) → n < length s → p (get_or s n 0) ≡ true → n + 1 + prefix_len p (drop (n + 1) s) ≡ n + prefix_len p (drop n s)
  count_more s n h t =
      let e : prefix_len p (drop n s) ≡ 1 + prefix_len p (drop (suc n) s) = ap (prefix_len p) (drop-cons s n 0 h) ∙ cons_passes (get_or s n 0) (drop (suc n) s) t in
      let o : n + 1 ≡ suc n = omega arith in
      let f : prefix_len p (drop (n + 1) s) ≡ prefix_len p (drop (suc n) s) = ap (λ (k : ℕ). prefix_len p (drop k s)) o in
      omega (arith, e, f)

  pub count_stops : (s : List ℕ) (n : ℕ) → n < length s → p (get_or s n 0) ≡ false → n + prefix_len p (drop n s) ≡ n
  count_stops s n h t = let e : prefix_len p (drop n s) ≡ 0 = prefix_len-drop_no p s n 0 h t in omega (arith, e)

  pub count_ends : (s : List ℕ) (n : ℕ) → length s ≤ n → n + prefix_len p (drop n s) ≡ n
  count_ends s n h = let e : prefix_len p (drop n s) ≡ 0 = prefix_len-drop_all p s n h in omega (arith, e)

pub value_more : (s : List ℕ) (k n : ℕ) → k < length s → value (next_value n (get_or s k 0)) (drop (k + 1) s) ≡ value n (drop k s)
unfolding value
value_more s k n h = rw (add-one, drop-cons s k 0) refl

pub value_ends : (s : List ℕ) (k n : ℕ) → length s ≤ k → value n (drop k s) ≡ n
unfolding value
value_ends s k n h = rw (drop_all k s h) refl

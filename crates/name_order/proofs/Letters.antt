-- The order of names and of starts, said of their letters: proved.
use Rattle.std.specs.Char.{to_ascii_lowercase}
use Rattle.std.proofs.Common.{ℕ, ◌+◌, ◌<◌, ◌≤◌, ◌≡◌, refl, sym, ap, subst, ◌∙◌, Bool, true, false, List, [], ◌∷◌, get_or, arith, ltb, ltb-true, ltb-false, lt-ltb}
use Rattle.std.specs.declared.cmp.Ordering.{Ordering}
use Rattle.std.specs.declared.cmp.Ordering.TheVariants.{Less, Equal, Greater}
use Rattle.std.specs.Ordering.{nat_cmp, ordering_then, is_lt}
use Rattle.std.proofs.lemmas.Cmp.{tied_itself, nat_cmp_total, ranked}
use Rattle.std.specs.List.Sorted.{IsSortedBy}
use Rattle.std.proofs.lemmas.List.Sorted.{sorted_far}
use Rattle.le.proofs.Laws.{not_both}
use Rattle.names.specs.Names.{folded}
use Rattle.names.specs.Meaning.{SameLetter, SameLetters, end, letter}
use Rattle.names.proofs.Laws.{fold_below, fold_above, fold_letter, same_folded, folded_same}
use Rattle.names.proofs.Meaning.{same_by_letters}
use Rattle.name_order.specs.declared.places.NamePlaces.{NamePlaces}
use Rattle.name_order.specs.Order.{name_at, name_cmp, start_cmp, goes_first}
use Rattle.name_order.specs.Letters.{Small, letter as small_letter, below, above, ComesFirst, ended, lower, later, name_there, StartsFirst, by_name, by_start, IsInNameOrder, OrderMeant}
use Rattle.name_order.proofs.Order.{places_weak}
use Rattle.name_order.proofs.Meaning.{cmp_same, same_cmp}

-- a letter in small letters is the letter folded
small_of : (b : ℕ) → Small b (to_ascii_lowercase b)
small_of b = by (ltb b 65) (ltb 90 b) refl refl
  where
    by : (p q : Bool) → ltb b 65 ≡ p → ltb 90 b ≡ q → Small b (to_ascii_lowercase b)
    by true q e f = subst (Small b) (sym (fold_below b (ltb-true b 65 e))) (below (ltb-true b 65 e))
    by false true e f = subst (Small b) (sym (fold_above b (ltb-true 90 b f))) (above (ltb-true 90 b f))
    by false false e f = subst (Small b) (sym (fold_letter b (ltb-false b 65 e) (ltb-false 90 b f))) (small_letter (ltb-false b 65 e) (ltb-false 90 b f))

small_is : (b c : ℕ) → Small b c → to_ascii_lowercase b ≡ c
small_is b c (small_letter h k) = fold_letter b h k
small_is b c (below h) = fold_below b h
small_is b c (above h) = fold_above b h

only_letter : (x y : ℕ) → SameLetters (x ∷ []) (y ∷ []) → SameLetter x y
only_letter x y (letter l end) = l

letter_of : (x y : ℕ) → to_ascii_lowercase x ≡ to_ascii_lowercase y → SameLetter x y
unfolding folded
letter_of x y e = only_letter x y ((same_by_letters (x ∷ []) (y ∷ [])).0 (folded_same (x ∷ []) (y ∷ []) (ap (λ (n : ℕ). n ∷ []) e)))

of_letter : (x y : ℕ) → SameLetter x y → to_ascii_lowercase x ≡ to_ascii_lowercase y
unfolding folded
of_letter x y l = let e : to_ascii_lowercase x ∷ [] ≡ to_ascii_lowercase y ∷ [] = same_folded (x ∷ []) (y ∷ []) ((same_by_letters (x ∷ []) (y ∷ [])).1 (letter l end)) in cc

less_of : (n m : ℕ) → n < m → nat_cmp n m ≡ Less
less_of n m h = simp (lt-ltb n m h) refl

names_first : (own other : List ℕ) → name_cmp own other ≡ Less → ComesFirst own other
unfolding name_cmp folded
names_first [] [] h = absurd (not_both refl (sym (ap is_lt h)))
names_first [] (y ∷ other) h = ended
names_first (x ∷ own) [] h = absurd (not_both refl (sym (ap is_lt h)))
names_first (x ∷ own) (y ∷ other) h = by (names_first own other) (nat_cmp (to_ascii_lowercase x) (to_ascii_lowercase y)) refl h
  where
    by : (name_cmp own other ≡ Less → ComesFirst own other) → (r : Ordering) → r ≡ nat_cmp (to_ascii_lowercase x) (to_ascii_lowercase y) → ordering_then r (name_cmp own other) ≡ Less → ComesFirst (x ∷ own) (y ∷ other)
    by on Less e k = lower (small_of x) (small_of y) (ranked (to_ascii_lowercase x) (to_ascii_lowercase y) Less e)
    by on Equal e k = later (letter_of x y (ranked (to_ascii_lowercase x) (to_ascii_lowercase y) Equal e)) (on k)
    by on Greater e k = absurd (not_both refl (sym (ap is_lt k)))

first_names : (own other : List ℕ) → ComesFirst own other → name_cmp own other ≡ Less
unfolding name_cmp folded
first_names [] [] c = elim c [ ]
first_names [] (y ∷ other) ended = refl
first_names (x ∷ own) [] c = elim c [ ]
first_names (x ∷ own) (y ∷ other) (lower {a = a} {b = b} p q l) =
    let e : nat_cmp (to_ascii_lowercase x) (to_ascii_lowercase y) ≡ Less = (λ i. nat_cmp (small_is x a p i) (small_is y b q i)) ∙ less_of a b l in
    ap (λ (r : Ordering). ordering_then r (name_cmp own other)) e
first_names (x ∷ own) (y ∷ other) (later l on) =
    let e : nat_cmp (to_ascii_lowercase x) (to_ascii_lowercase y) ≡ Equal = ap (λ (n : ℕ). nat_cmp n (to_ascii_lowercase y)) (of_letter x y l) ∙ tied_itself nat_cmp_total (to_ascii_lowercase y) in
    ap (λ (r : Ordering). ordering_then r (name_cmp own other)) e ∙ first_names own other on

module _ (w : NamePlaces) (s : List ℕ) (a b : ℕ) where
  starts_first : goes_first w s a b ≡ true → StartsFirst w s a b
  unfolding start_cmp name_at
  starts_first h = by (name_cmp (name_there w s a) (name_there w s b)) refl h
    where
      lower_start : (r : Ordering) → r ≡ nat_cmp a b → is_lt r ≡ true → a < b
      lower_start Less e k = ranked a b Less e
      lower_start Equal e k = absurd (not_both k refl)
      lower_start Greater e k = absurd (not_both k refl)

      by : (r : Ordering) → name_cmp (name_there w s a) (name_there w s b) ≡ r → is_lt (ordering_then r (nat_cmp a b)) ≡ true → StartsFirst w s a b
      by Less e k = by_name (names_first (name_there w s a) (name_there w s b) e)
      by Equal e k = by_start ((same_by_letters (name_there w s a) (name_there w s b)).0 (cmp_same (name_there w s a) (name_there w s b) e)) (lower_start (nat_cmp a b) refl k)
      by Greater e k = absurd (not_both k refl)

  first_starts : StartsFirst w s a b → goes_first w s a b ≡ true
  unfolding start_cmp name_at
  first_starts (by_name c) = ap (λ (r : Ordering). is_lt (ordering_then r (nat_cmp a b))) (first_names (name_there w s a) (name_there w s b) c)
  first_starts (by_start l h) =
      ap (λ (r : Ordering). is_lt (ordering_then r (nat_cmp a b))) (same_cmp (name_there w s a) (name_there w s b) ((same_by_letters (name_there w s a) (name_there w s b)).1 l)) ∙ ap is_lt (less_of a b h)

module _ (w : NamePlaces) (s starts : List ℕ) where
  pub in_name_order : IsSortedBy (goes_first w s) starts → IsInNameOrder w s starts
  in_name_order up i j d h k first =
      let earlier : i ≤ j = omega (arith, h) in
      not_both (first_starts w s (get_or starts j d) (get_or starts i d) first) (sorted_far (goes_first w s) (places_weak w s) starts up i j d earlier k)

  pub name_order_sorted : IsInNameOrder w s starts → IsSortedBy (goes_first w s) starts
  name_order_sorted up i d l h = by (goes_first w s (get_or starts (i + 1) d) (get_or starts i d)) refl
    where
      by : (t : Bool) → goes_first w s (get_or starts (i + 1) d) (get_or starts i d) ≡ t → t ≡ false
      by true e = let next : i < i + 1 = omega arith in absurd (up i (i + 1) d next h (starts_first w s (get_or starts (i + 1) d) (get_or starts i d) e))
      by false e = refl

pub order_meant : OrderMeant
order_meant = record { names = λ own other. (names_first own other, first_names own other); starts = λ w s a b. (starts_first w s a b, first_starts w s a b); sorted = λ w s starts. (in_name_order w s starts, name_order_sorted w s starts) }

-- Lists by their places, and a list that is the other in another order.
use Rattle.std.proofs.Common.{ℕ, zero, suc, ◌+◌, ◌<◌, ◌≤◌, ◌≡◌, ◌≢◌, ◌⊎◌, inl, inr, refl, sym, ap, subst, ◌∙◌, List, [], ◌∷◌, ◌++◌, length, drop, map, append_assoc, add-one, arith}
use Rattle.std.specs.Prelude.{Option, Some, None, slice_get, slice_set, slice_index_or}
use Rattle.std.specs.List.{Contains, flat_map, filter_map, cons_option, enumerate_from}
use Rattle.std.specs.List.Sorted.{IsPermutation}
use Rattle.std.proofs.lemmas.Grind.{flat_map-append}
use Rattle.std.proofs.lemmas.List.Elements.{filter_map-append}
use Rattle.std.proofs.lemmas.Option.{slice_get_within}
use Rattle.std.proofs.lemmas.List.Sorted.{IsPermutation-refl, IsPermutation-trans, IsPermutation-append_left, IsPermutation-append_right, IsPermutation-append_comm}

-- what stands at a place, and behind it
pub drop_step : {X : Type 0} (i : ℕ) (xs : List X) {x : X} {rest : List X} → drop i xs ≡ x ∷ rest → (slice_get xs i ≡ Some x) × (drop (suc i) xs ≡ rest)
drop_step zero [] e = cc
drop_step zero (y ∷ ys) e = (cc, cc)
drop_step (suc i) [] e = cc
drop_step (suc i) (y ∷ ys) e = drop_step i ys e

pub drop_next : {X : Type 0} (i : ℕ) (xs : List X) {x : X} {rest : List X} → drop i xs ≡ x ∷ rest → drop (i + 1) xs ≡ rest
drop_next {X} i xs e = ap (λ (k : ℕ). drop k xs) (add-one i) ∙ (drop_step i xs e).1

pub get_past : {X : Type 0} (i j : ℕ) (xs : List X) → drop i xs ≡ [] → i ≤ j → slice_get xs j ≡ None
get_past i j [] e h = refl
get_past zero j (y ∷ ys) e h = cc
get_past (suc i) zero (y ∷ ys) e h = absurd (omega arith)
get_past (suc i) (suc j) (y ∷ ys) e h = get_past i j ys e (omega arith)

-- what stands at a number within
pub record Got {X : Type 0} (xs : List X) (k : ℕ) : Type 0 where
  pub it : X
  pub is : slice_get xs k ≡ Some it

pub got : {X : Type 0} (xs : List X) (k : ℕ) → k < length xs → Got xs k
got [] k h = absurd (omega arith)
got (x ∷ xs) zero h = record { it = x; is = refl }
got (x ∷ xs) (suc k) h = let t = got xs k (omega arith) in record { it = t.it; is = t.is }

pub got_none : {X : Type 0} (xs : List X) (k : ℕ) → k < length xs → slice_get xs k ≡ None → ⊥
got_none xs k h e = let t = got xs k h in let s = t.is in cc

-- elements by their numbers
pub contained : {X : Type 0} (xs : List X) (x : X) → Contains xs x → (k : ℕ) × (slice_get xs k ≡ Some x)
contained xs x c = (c.0, at xs c.0 c.1 c.2)
  where
    at : {X : Type 0} {x : X} (xs : List X) (k : ℕ) → k < length xs → slice_index_or xs k x ≡ x → slice_get xs k ≡ Some x
    at [] k h e = absurd (omega arith)
    at (y ∷ ys) zero h e = ap (λ z. Some z) e
    at (y ∷ ys) (suc k) h e = at ys k (omega arith) e

pub contains : {X : Type 0} (xs : List X) (k : ℕ) (x : X) → slice_get xs k ≡ Some x → Contains xs x
contains xs k x e = (k, slice_get_within xs k x e, at xs k e)
  where
    at : {X : Type 0} {x : X} (xs : List X) (k : ℕ) → slice_get xs k ≡ Some x → slice_index_or xs k x ≡ x
    at [] k e = cc
    at (y ∷ ys) zero e = cc
    at (y ∷ ys) (suc k) e = at ys k e

-- what is kept of a list came from somewhere
pub record From {X Y : Type 0} (f : X → Option Y) (xs : List X) (y : Y) : Type 0 where
  pub number : ℕ
  pub it : X
  pub is : slice_get xs number ≡ Some it
  pub gives : f it ≡ Some y

pub from : {X Y : Type 0} (f : X → Option Y) (y : Y) (xs : List X) (k : ℕ) → slice_get (filter_map f xs) k ≡ Some y → From f xs y
from f y [] k e = cc
from {X} {Y} f y (x ∷ xs) k e = by (f x) refl k e (from f y xs)
  where
    by : (o : Option Y) → f x ≡ o → (k : ℕ) → slice_get (cons_option o (filter_map f xs)) k ≡ Some y → ((k : ℕ) → slice_get (filter_map f xs) k ≡ Some y → From f xs y) → From f (x ∷ xs) y
    by None g k e on = let n = on k e in record { number = suc n.number; it = n.it; is = n.is; gives = n.gives }
    by (Some z) g zero e on = let same : z ≡ y = cc in record { number = 0; it = x; is = refl; gives = g ∙ ap (λ w. Some w) same }
    by (Some z) g (suc k) e on = let n = on k e in record { number = suc n.number; it = n.it; is = n.is; gives = n.gives }

-- after one place is set
pub set_same : {X : Type 0} (xs : List X) (i : ℕ) (v : X) {x : X} → slice_get xs i ≡ Some x → slice_get (slice_set xs i v) i ≡ Some v
set_same [] i v e = cc
set_same (y ∷ ys) zero v e = refl
set_same (y ∷ ys) (suc i) v e = set_same ys i v e

pub set_other : {X : Type 0} (xs : List X) (i k : ℕ) (v : X) → (k ≢ i) → slice_get (slice_set xs i v) k ≡ slice_get xs k
set_other [] i k v n = refl
set_other (y ∷ ys) zero zero v n = absurd (n refl)
set_other (y ∷ ys) zero (suc k) v n = refl
set_other (y ∷ ys) (suc i) zero v n = refl
set_other (y ∷ ys) (suc i) (suc k) v n = set_other ys i k v (λ e. n (ap suc e))

pub set_either : {X : Type 0} (xs : List X) (i k : ℕ) (v y : X) → slice_get (slice_set xs i v) k ≡ Some y → ((k ≡ i) × (v ≡ y)) ⊎ (slice_get xs k ≡ Some y)
set_either [] i k v y e = inr e
set_either (x ∷ xs) zero zero v y e = inl (refl, cc)
set_either (x ∷ xs) zero (suc k) v y e = inr e
set_either (x ∷ xs) (suc i) zero v y e = inr e
set_either (x ∷ xs) (suc i) (suc k) v y e = elim (set_either xs i k v y e) [ inl h ↦ inl (ap suc h.0, h.1) | inr h ↦ inr h ]

-- parts of what is kept
pub kept_flat : {X Y Z : Type 0} (f : X → List Y) (g : Y → Option Z) (xs : List X) → filter_map g (flat_map f xs) ≡ flat_map (λ x. filter_map g (f x)) xs
kept_flat f g [] = refl
kept_flat {Z = Z} f g (x ∷ xs) = filter_map-append g (f x) (flat_map f xs) ∙ ap (λ (l : List Z). filter_map g (f x) ++ l) (kept_flat f g xs)

-- the numbers of a list's places
abbrev pub numbers : {X : Type 0} → ℕ → List X → List ℕ
numbers k xs = map (λ x. x.0) (enumerate_from k xs)

pub numbers_long : {X Y : Type 0} (k : ℕ) (xs : List X) (ys : List Y) → length xs ≡ length ys → numbers k xs ≡ numbers k ys
numbers_long k [] [] e = refl
numbers_long k [] (y ∷ ys) e = absurd (omega arith)
numbers_long k (x ∷ xs) [] e = absurd (omega arith)
numbers_long k (x ∷ xs) (y ∷ ys) e = ap (λ (l : List ℕ). k ∷ l) (numbers_long (k + 1) xs ys (omega arith))

pub all_got : {X : Type 0} (all : List X) (k : ℕ) (xs : List X) → drop k all ≡ xs → filter_map (slice_get all) (numbers k xs) ≡ xs
all_got all k [] e = refl
all_got {X} all k (x ∷ xs) e =
    ap (λ (o : Option X). cons_option o (filter_map (slice_get all) (numbers (k + 1) xs))) (drop_step k all e).0
    ∙ ap (λ (l : List X). x ∷ l) (all_got all (k + 1) xs (drop_next k all e))

-- what stands in a list of numbers; and that none does twice
pub data In (x : ℕ) : List ℕ → Type 0 where
  here : {xs : List ℕ} → In x (x ∷ xs)
  later : {y : ℕ} {xs : List ℕ} → In x xs → In x (y ∷ xs)

pub data Apart : List ℕ → Type 0 where
  none : Apart []
  more : {x : ℕ} {xs : List ℕ} → (In x xs → ⊥) → Apart xs → Apart (x ∷ xs)

pub here_is : {x y : ℕ} {xs : List ℕ} → x ≡ y → In x (y ∷ xs)
here_is {x} {xs = xs} e = subst (λ (z : ℕ). In x (z ∷ xs)) e here

record Split (x : ℕ) (ys : List ℕ) : Type 0 where
  front : List ℕ
  back : List ℕ
  is : ys ≡ front ++ x ∷ back

split : {x : ℕ} {ys : List ℕ} → In x ys → Split x ys
split (here {xs = xs}) = record { front = []; back = xs; is = refl }
split (later {y = y} h) = let s = split h in record { front = y ∷ s.front; back = s.back; is = ap (λ (l : List ℕ). y ∷ l) s.is }

in_middle : (x z : ℕ) (u v : List ℕ) → In z (u ++ x ∷ v) → (z ≡ x) ⊎ In z (u ++ v)
in_middle x z [] v here = inl refl
in_middle x z [] v (later h) = inr h
in_middle x z (y ∷ u) v here = inr here
in_middle x z (y ∷ u) v (later h) = elim (in_middle x z u v h) [ inl e ↦ inl e | inr k ↦ inr (later k) ]

in_more : (x z : ℕ) (u v : List ℕ) → In z (u ++ v) → In z (u ++ x ∷ v)
in_more x z [] v h = later h
in_more x z (y ∷ u) v here = here
in_more x z (y ∷ u) v (later h) = later (in_more x z u v h)

in_itself : (x : ℕ) (u v : List ℕ) → In x (u ++ x ∷ v)
in_itself x [] v = here
in_itself x (y ∷ u) v = later (in_itself x u v)

apart_less : (x : ℕ) (u v : List ℕ) → Apart (u ++ x ∷ v) → Apart (u ++ v)
apart_less x [] v (more n a) = a
apart_less x (y ∷ u) v (more n a) = more (λ h. n (in_more x y u v h)) (apart_less x u v a)

apart_gone : (x : ℕ) (u v : List ℕ) → Apart (u ++ x ∷ v) → In x (u ++ v) → ⊥
apart_gone x [] v (more n a) h = n h
apart_gone x (y ∷ u) v (more n a) here = n (in_itself x u v)
apart_gone x (y ∷ u) v (more n a) (later h) = apart_gone x u v a h

-- lists of the same numbers, none twice: what is made of each of the one is what is made of each of the other in another order
module _ {Y : Type 0} (f : ℕ → List Y) where
  to_middle : (x : ℕ) (xs u v : List ℕ) → IsPermutation (flat_map f xs) (flat_map f (u ++ v)) → IsPermutation (flat_map f (x ∷ xs)) (flat_map f (u ++ x ∷ v))
  to_middle x xs u v p =
      let U : List Y = flat_map f u in
      let V : List Y = flat_map f v in
      let a : IsPermutation (f x ++ flat_map f xs) (f x ++ (U ++ V)) = subst (λ (l : List Y). IsPermutation (f x ++ flat_map f xs) (f x ++ l)) (flat_map-append f u v) (IsPermutation-append_right (f x) _ _ p) in
      let b : IsPermutation ((f x ++ U) ++ V) ((U ++ f x) ++ V) = IsPermutation-append_left V _ _ (IsPermutation-append_comm (f x) U) in
      let c : IsPermutation (f x ++ (U ++ V)) (U ++ (f x ++ V)) = subst (λ (l : List Y). IsPermutation l (U ++ (f x ++ V))) (append_assoc (f x) U V) (subst (IsPermutation ((f x ++ U) ++ V)) (append_assoc U (f x) V) b) in
      subst (IsPermutation (f x ++ flat_map f xs)) (sym (flat_map-append f u (x ∷ v))) (IsPermutation-trans _ _ _ a c)

  pub same_parts : (xs ys : List ℕ) → Apart xs → Apart ys → ((z : ℕ) → In z xs → In z ys) → ((z : ℕ) → In z ys → In z xs) → IsPermutation (flat_map f xs) (flat_map f ys)
  same_parts [] [] a b to back = IsPermutation-refl []
  same_parts [] (y ∷ ys) a b to back = elim (back y here) [ ]
  same_parts (x ∷ xs) ys (more n a) b to back =
      let s = split (to x here) in
      let b' : Apart (s.front ++ x ∷ s.back) = subst Apart s.is b in
      let to' : (z : ℕ) → In z xs → In z (s.front ++ s.back) = λ z h. elim (in_middle x z s.front s.back (subst (In z) s.is (to z (later h)))) [ inl e ↦ absurd (n (subst (λ (k : ℕ). In k xs) e h)) | inr k ↦ k ] in
      let back' : (z : ℕ) → In z (s.front ++ s.back) → In z xs = λ z h. only z (λ e. apart_gone x s.front s.back b' (subst (λ (k : ℕ). In k (s.front ++ s.back)) e h)) (back z (subst (In z) (sym s.is) (in_more x z s.front s.back h))) in
      subst (λ (l : List ℕ). IsPermutation (flat_map f (x ∷ xs)) (flat_map f l)) (sym s.is) (to_middle x xs s.front s.back (same_parts xs (s.front ++ s.back) a (apart_less x s.front s.back b') to' back'))
    where
      only : (z : ℕ) → (z ≡ x → ⊥) → In z (x ∷ xs) → In z xs
      only z m here = absurd (m refl)
      only z m (later h) = h

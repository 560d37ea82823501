-- What a loop has still to do, after what it did.
use Rattle.std.proofs.Common.{ℕ, ◌+◌, ◌<◌, ◌≤◌, ◌≡◌, sym, ap, ◌∙◌, List, [], ◌∷◌, ◌++◌, length, drop, get_or, append_assoc, append-nil, add-one, map, drop_of_length-le}
use Rattle.std.specs.List.{flat_map, enumerate_from}
use Rattle.std.proofs.Math.Seq.{drop-cons}

-- the element at a place, and those behind it
pub turn : {X : Type 0} (xs : List X) (i : ℕ) (d : X) → i < length xs → drop i xs ≡ get_or xs i d ∷ drop (i + 1) xs
turn xs i d h = rw add-one (drop-cons xs i d h)

pub none_left : {X : Type 0} (xs : List X) (i : ℕ) → length xs ≤ i → drop i xs ≡ []
none_left xs i h = drop_of_length-le xs {i = i} h

-- one thing more
pub pushed : {X : Type 0} (now : List X) (x : X) (rest : List X) {next all : List X} → next ≡ now ++ x ∷ [] → now ++ x ∷ rest ≡ all → next ++ rest ≡ all
pushed {X = X} now x rest e h = ap (λ (l : List X). l ++ rest) e ∙ append_assoc now (x ∷ []) rest ∙ h

pub mapped : {X Y : Type 0} (f : X → Y) (now : List Y) {left rest : List X} {x : X} {y : Y} {next all : List Y} → left ≡ x ∷ rest → next ≡ now ++ y ∷ [] → y ≡ f x → now ++ map f left ≡ all → next ++ map f rest ≡ all
mapped {X = X} {Y = Y} f now {rest = rest} {x = x} e n s h = pushed now (f x) (map f rest) (n ∙ ap (λ (z : Y). now ++ z ∷ []) s) (ap (λ (l : List X). now ++ map f l) (sym e) ∙ h)

pub all_mapped : {X Y : Type 0} (f : X → Y) (now : List Y) {left : List X} {all : List Y} → left ≡ [] → now ++ map f left ≡ all → now ≡ all
all_mapped {X = X} f now e h = sym (append-nil now) ∙ ap (λ (l : List X). now ++ map f l) (sym e) ∙ h

-- of elements with their numbers
module _ {X Y : Type 0} (f : ℕ × X → List Y) (xs : List X) (i : ℕ) where
  pub numbered : (now : List Y) {x : X} {rest : List X} {next all : List Y} → drop i xs ≡ x ∷ rest → next ≡ now ++ f (i, x) → now ++ flat_map f (enumerate_from i (drop i xs)) ≡ all → next ++ flat_map f (enumerate_from (i + 1) rest) ≡ all
  numbered now {x} {rest} e n h =
      ap (λ (l : List Y). l ++ flat_map f (enumerate_from (i + 1) rest)) n ∙ append_assoc now (f (i, x)) (flat_map f (enumerate_from (i + 1) rest))
      ∙ ap (λ (l : List X). now ++ flat_map f (enumerate_from i l)) (sym e) ∙ h

  pub all_numbered : (now : List Y) {all : List Y} → length xs ≤ i → now ++ flat_map f (enumerate_from i (drop i xs)) ≡ all → now ≡ all
  all_numbered now l h = sym (append-nil now) ∙ ap (λ (k : List X). now ++ flat_map f (enumerate_from i k)) (sym (none_left xs i l)) ∙ h

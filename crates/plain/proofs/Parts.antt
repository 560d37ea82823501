-- Bytes compared one at a time, and parts of them one after another.
use Rattle.std.proofs.Common.{◌≡◌, ◌<◌, ◌≤◌, ℕ, zero, suc, ◌+◌, Bool, true, false, List, [], ◌∷◌, ◌++◌, length, drop, get_or, Ok, Err, Result, refl, ap, ap₂, ◌∙◌, arith, ◌/◌, ◌%◌, ◌^◌}
use Rattle.std.specs.Prelude.{if◌then◌else◌}
use Rattle.std.proofs.lemmas.List.{drop_all}
use Rattle.std.specs.Int.{to_le_bytes}
use Rattle.std.proofs.Common.{w16, w32}
use Rattle.le.specs.Le.{bytes2, bytes4}
use Rattle.part.specs.Outcome.{and_then}
use Rattle.plain.specs.Plain.{stands, along}

drop_turn : (bs : List ℕ) (i : ℕ) → i < length bs → drop i bs ≡ get_or bs i 0 ∷ drop (suc i) bs
drop_turn [] i h = absurd (omega arith)
drop_turn (b ∷ bs) zero h = refl
drop_turn (b ∷ bs) (suc i) h = drop_turn bs i (omega arith)

-- the comparison at a byte of those that are left
pub along_turn : (e bs : List ℕ) (at i : ℕ) → i < length bs → along e at (drop i bs) ≡ (if stands e at (get_or bs i 0) then along e (at + 1) (drop (i + 1) bs) else Err at)
unfolding along
along_turn e bs at i h =
    let next : suc i ≡ i + 1 = omega arith in
    ap (along e at) (drop_turn bs i h ∙ ap (λ (k : ℕ). get_or bs i 0 ∷ drop k bs) next)

pub along_none : (e bs : List ℕ) (at i : ℕ) → length bs ≤ i → along e at (drop i bs) ≡ Ok at
unfolding along
along_none e bs at i h = ap (along e at) (drop_all i bs h)

pub along_empty : (e : List ℕ) (at : ℕ) → along e at [] ≡ Ok at
unfolding along
along_empty e at = refl

-- parts one after another
along_by : (e : List ℕ) (at : ℕ) (b : ℕ) (xs ys : List ℕ) (t : Bool) → along e (at + 1) (xs ++ ys) ≡ and_then (along e (at + 1) xs) (λ next. along e next ys)
    → ◌≡◌ {A = Result ℕ ℕ} (if t then along e (at + 1) (xs ++ ys) else Err at) (and_then (if t then along e (at + 1) xs else Err at) (λ next. along e next ys))
along_by e at b xs ys true h = h
along_by e at b xs ys false h = refl

pub along_append : (e : List ℕ) (at : ℕ) (xs ys : List ℕ) → along e at (xs ++ ys) ≡ and_then (along e at xs) (λ next. along e next ys)
unfolding along
along_append e at [] ys = refl
along_append e at (b ∷ xs) ys = along_by e at b xs ys (stands e at b) (along_append e (at + 1) xs ys)

-- a number in bytes is what std writes of it
second : (n : ℕ) → n / 256 ^ 1 % 256 ≡ n / 256 % 256
second n = omega arith

third : (n : ℕ) → n / 65536 % 256 ≡ n / 256 / 256 % 256
third n = omega arith

fourth : (n : ℕ) → n / 16777216 % 256 ≡ n / 256 / 256 / 256 % 256
fourth n = omega arith

pub two_bytes : (n : ℕ) → to_le_bytes w16 n ≡ bytes2 n
two_bytes n = ap (λ (a : ℕ). n % 256 ∷ a ∷ []) (second n)

pub four_bytes : (n : ℕ) → to_le_bytes w32 n ≡ bytes4 n
four_bytes n =
    ap (λ (a : ℕ). n % 256 ∷ a ∷ n / 65536 % 256 ∷ n / 16777216 % 256 ∷ []) (second n)
    ∙ ap₂ (λ (a b : ℕ). n % 256 ∷ n / 256 % 256 ∷ a ∷ b ∷ []) (third n) (fourth n)

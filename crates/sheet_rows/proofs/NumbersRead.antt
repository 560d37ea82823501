-- The number of a cell is zeros and figures.
use Rattle.std.proofs.Common.{ℕ, zero, suc, ◌+◌, ◌-◌, ◌*◌, ◌/◌, ◌%◌, ◌<◌, ◌≤◌, ◌≡◌, refl, sym, ap, subst, ◌∙◌, Bool, true, false, List, [], ◌∷◌, ◌++◌, length, append_assoc, append-nil, length-append, arith}
use Rattle.std.specs.Prelude.{Some, None, leb, decimal, replicate, if◌then◌else◌}
use Rattle.std.proofs.lemmas.Fmt.{decimal_digit, decimal_nonempty}
use borrow.Author.Tests.{leb-true, leb-false, le-leb}
use Rattle.sheet.proofs.Escapes.{last_digit}
use Rattle.sheet_rows.specs.Numbers.{number_from, number_of}
use Rattle.sheet_rows.specs.Meant.{IsNumber, NumbersMeant}

-- ---- a digit more
pub number_none : (most v : ℕ) → number_from most v [] ≡ Some v
unfolding number_from
number_none most v = refl

pub digit_on : (most v b : ℕ) (s : List ℕ) → 48 ≤ b → b ≤ 57 → 10 * v + (b - 48) ≤ most → number_from most v (b ∷ s) ≡ number_from most (10 * v + (b - 48)) s
unfolding number_from
digit_on most v b s h k m = simp (le-leb 48 b h, le-leb b 57 k, le-leb (10 * v + (b - 48)) most m)

record Digit (most v b n : ℕ) (s : List ℕ) : Type 0 where
  low : 48 ≤ b
  high : b ≤ 57
  within : 10 * v + (b - 48) ≤ most
  on : number_from most (10 * v + (b - 48)) s ≡ Some n

digit_some : (most v b n : ℕ) (s : List ℕ) → number_from most v (b ∷ s) ≡ Some n → Digit most v b n s
unfolding number_from
digit_some most v b n s = by (leb 48 b) (leb b 57) (leb (10 * v + (b - 48)) most) refl refl refl
  where
    by : (p q r : Bool) → leb 48 b ≡ p → leb b 57 ≡ q → leb (10 * v + (b - 48)) most ≡ r
        → (if (if p then q else false) then if r then number_from most (10 * v + (b - 48)) s else None else None) ≡ Some n → Digit most v b n s
    by true true true e f g h = record { low = leb-true 48 b e; high = leb-true b 57 f; within = leb-true (10 * v + (b - 48)) most g; on = h }
    by true true false e f g h = cc
    by true false r e f g h = cc
    by false q r e f g h = cc

zeros_more : (z : ℕ) (s : List ℕ) → replicate z 48 ++ (48 ∷ s) ≡ replicate (suc z) 48 ++ s
zeros_more zero s = refl
zeros_more (suc z) s = ap (λ (l : List ℕ). 48 ∷ l) (zeros_more z s)

with_digit : (p : List ℕ) (v d : ℕ) → IsNumber p v → d < 10 → 10 * v + d < 4294967296 → IsNumber (p ++ ((48 + d) ∷ [])) (10 * v + d)
with_digit p zero d i h k =
    let same : d ≡ 10 * 0 + d = omega arith in
    record {
      zeros = suc i.zeros;
      is = ap (λ (l : List ℕ). l ++ ((48 + d) ∷ [])) i.is
          ∙ append_assoc (replicate i.zeros 48) (decimal zero) ((48 + d) ∷ [])
          ∙ ap (λ (l : List ℕ). replicate i.zeros 48 ++ (l ++ ((48 + d) ∷ []))) (decimal_digit 0 (omega arith))
          ∙ zeros_more i.zeros ((48 + d) ∷ [])
          ∙ ap (λ (l : List ℕ). replicate (suc i.zeros) 48 ++ l) (sym (decimal_digit d h) ∙ ap decimal same);
    }
with_digit p (suc w) d i h k =
    let n : ℕ = 10 * suc w + d in
    let tens : n / 10 ≡ suc w = omega arith in
    let ones : n % 10 ≡ d = omega arith in
    let l : decimal n ≡ decimal (n / 10) ++ ((48 + n % 10) ∷ []) = last_digit n (omega arith) k in
    let e : decimal (n / 10) ++ ((48 + n % 10) ∷ []) ≡ decimal (suc w) ++ ((48 + d) ∷ []) = ap (λ (t : ℕ). decimal t ++ ((48 + n % 10) ∷ [])) tens ∙ ap (λ (t : ℕ). decimal (suc w) ++ ((48 + t) ∷ [])) ones in
    record {
      zeros = i.zeros;
      is = ap (λ (l : List ℕ). l ++ ((48 + d) ∷ [])) i.is
          ∙ append_assoc (replicate i.zeros 48) (decimal (suc w)) ((48 + d) ∷ [])
          ∙ ap (λ (x : List ℕ). replicate i.zeros 48 ++ x) (sym (l ∙ e));
    }

first_digit : (d : ℕ) → d < 10 → IsNumber ((48 + d) ∷ []) d
first_digit d h = record { zeros = 0; is = sym (decimal_digit d h) }

-- ---- what is read is a number
number_on : (most v n : ℕ) (p s : List ℕ) → most < 4294967296 → IsNumber p v → v ≤ most → number_from most v s ≡ Some n → (n ≤ most) × IsNumber (p ++ s) n
number_on most v n p [] h i k e =
    let same : v ≡ n = let w = sym (number_none most v) ∙ e in cc in
    (omega arith, subst (λ (l : List ℕ). IsNumber l n) (sym (append-nil p)) (subst (IsNumber p) same i))
number_on most v n p (b ∷ s) h i k e =
    let d = digit_some most v b n s e in
    let back : 48 + (b - 48) ≡ b = omega (arith, d.low) in
    let j : IsNumber (p ++ (b ∷ [])) (10 * v + (b - 48)) =
    subst (λ (x : ℕ). IsNumber (p ++ (x ∷ [])) (10 * v + (b - 48))) back (with_digit p v (b - 48) i (omega (arith, d.high)) (omega (arith, d.within))) in
    let r = number_on most (10 * v + (b - 48)) n (p ++ (b ∷ [])) s h j d.within d.on in
    (r.0, subst (λ (l : List ℕ). IsNumber l n) (append_assoc p (b ∷ []) s) r.1)

number_is : (most n : ℕ) (text : List ℕ) → most < 4294967296 → number_of most text ≡ Some n → (n ≤ most) × IsNumber text n
unfolding number_of
number_is most n [] h e = cc
number_is most n (b ∷ s) h e =
    let d = digit_some most 0 b n s e in
    let back : 48 + (b - 48) ≡ b = omega (arith, d.low) in
    let same : 10 * 0 + (b - 48) ≡ b - 48 = omega arith in
    let j : IsNumber (b ∷ []) (10 * 0 + (b - 48)) =
    subst (λ (x : ℕ). IsNumber (b ∷ []) x) (sym same) (subst (λ (x : ℕ). IsNumber (x ∷ []) (b - 48)) back (first_digit (b - 48) (omega (arith, d.high)))) in
    number_on most (10 * 0 + (b - 48)) n (b ∷ []) s h j d.within d.on

-- ---- what is a number is read
zeros_read : (most z : ℕ) (s : List ℕ) → number_from most 0 (replicate z 48 ++ s) ≡ number_from most 0 s
zeros_read most zero s = refl
zeros_read most (suc z) s = digit_on most 0 48 (replicate z 48 ++ s) (omega arith) (omega arith) (omega arith) ∙ zeros_read most z s

one_figure : (most n : ℕ) (s : List ℕ) → n < 10 → n ≤ most → number_from most 0 (decimal n ++ s) ≡ number_from most n s
one_figure most n s d m =
    let same : 10 * 0 + (48 + n - 48) ≡ n = omega arith in
    ap (λ (x : List ℕ). number_from most 0 (x ++ s)) (decimal_digit n d)
    ∙ digit_on most 0 (48 + n) s (omega arith) (omega arith) (omega arith)
    ∙ ap (λ (x : ℕ). number_from most x s) same

last_figure : (most n : ℕ) (s : List ℕ) → 10 ≤ n → n ≤ most → most < 4294967296 → number_from most 0 (decimal (n / 10) ++ ((48 + n % 10) ∷ s)) ≡ number_from most (n / 10) ((48 + n % 10) ∷ s)
    → number_from most 0 (decimal n ++ s) ≡ number_from most n s
last_figure most n s d m l h =
    let same : 10 * (n / 10) + (48 + n % 10 - 48) ≡ n = omega arith in
    ap (λ (x : List ℕ). number_from most 0 (x ++ s)) (last_digit n d (omega arith))
    ∙ ap (number_from most 0) (append_assoc (decimal (n / 10)) ((48 + n % 10) ∷ []) s)
    ∙ h
    ∙ digit_on most (n / 10) (48 + n % 10) s (omega arith) (omega arith) (omega arith)
    ∙ ap (λ (x : ℕ). number_from most x s) same

figures_read : (k most n : ℕ) (s : List ℕ) → n < k → n ≤ most → most < 4294967296 → number_from most 0 (decimal n ++ s) ≡ number_from most n s
figures_read zero most n s h m l = absurd (omega arith)
figures_read (suc k) most n s h m l = by (leb 10 n) refl (λ d. figures_read k most (n / 10) ((48 + n % 10) ∷ s) (omega arith) (omega arith) l)
  where
    by : (b : Bool) → leb 10 n ≡ b → (10 ≤ n → number_from most 0 (decimal (n / 10) ++ ((48 + n % 10) ∷ s)) ≡ number_from most (n / 10) ((48 + n % 10) ∷ s))
        → number_from most 0 (decimal n ++ s) ≡ number_from most n s
    by true e f = let d = leb-true 10 n e in last_figure most n s d m l (f d)
    by false e f = one_figure most n s (leb-false 10 n e) m

number_begun : (most : ℕ) (text : List ℕ) → 0 < length text → number_of most text ≡ number_from most 0 text
unfolding number_of
number_begun most [] h = absurd (omega arith)
number_begun most (b ∷ s) h = refl

pub number_read : (most n : ℕ) (text : List ℕ) → most < 4294967296 → n ≤ most → IsNumber text n → number_of most text ≡ Some n
number_read most n text h k i =
    let some = decimal_nonempty n (omega arith) in
    let long : 0 < length text = omega (arith, ap length i.is, length-append (replicate i.zeros 48) (decimal n), some) in
    number_begun most text long
    ∙ ap (number_from most 0) i.is
    ∙ zeros_read most i.zeros (decimal n)
    ∙ ap (number_from most 0) (sym (append-nil (decimal n)))
    ∙ figures_read (suc n) most n [] (omega arith) k h
    ∙ number_none most n

pub numbers_meant : NumbersMeant
numbers_meant most n text h = (λ e. number_is most n text h e, λ p. number_read most n text h p.0 p.1)

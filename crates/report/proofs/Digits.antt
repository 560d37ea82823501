-- How many digits a number has, one division after another.
use Rattle.std.proofs.Common.{◌≡◌, ℕ, zero, suc, ◌+◌, ◌-◌, ◌/◌, ◌%◌, ◌<◌, ◌≤◌, ◌≢◌, Bool, true, false, List, [], ◌∷◌, length, refl, sym, ap, ◌∙◌, arith}
use Rattle.std.specs.Prelude.{◌==◌, if◌then◌else◌}
use Rattle.std.specs.Fmt.{digits, digits_onto, digit_glyph}
use Rattle.std.proofs.lemmas.Bool.{ne_eqb}
use native.Mathlib.Nat.{add-zero}

-- of at most so many
unfoldable pub count_on : ℕ → ℕ → ℕ → ℕ
count_on zero base n = 0
count_on (suc k) base n = if n / base == 0 then 1 else suc (count_on k base (n / base))

onto : (k base : ℕ) (upper : Bool) (n : ℕ) (acc : List ℕ) → length (digits_onto k base upper n acc) ≡ count_on k base n + length acc
unfolding count_on
onto zero base upper n acc = omega arith
onto (suc k) base upper n acc = go (n / base == 0) (onto k base upper (n / base) (digit_glyph upper (n % base) ∷ acc))
  where
    go : (z : Bool) → length (digits_onto k base upper (n / base) (digit_glyph upper (n % base) ∷ acc)) ≡ count_on k base (n / base) + suc (length acc)
        → length (if z then digit_glyph upper (n % base) ∷ acc else digits_onto k base upper (n / base) (digit_glyph upper (n % base) ∷ acc)) ≡ (if z then 1 else suc (count_on k base (n / base))) + length acc
    go true h = omega arith
    go false h = h ∙ omega arith

pub counted : (base : ℕ) (upper : Bool) (n r : ℕ) → r ≡ count_on 64 base n → r ≡ length (digits base upper n)
unfolding digits
counted base upper n r e = e ∙ sym (onto 64 base upper n [] ∙ add-zero (count_on 64 base n))

few : (k base n : ℕ) → count_on k base n ≤ k
unfolding count_on
few zero base n = omega arith
few (suc k) base n = go (n / base == 0) (few k base (n / base))
  where
    go : (z : Bool) → count_on k base (n / base) ≤ k → (if z then 1 else suc (count_on k base (n / base))) ≤ suc k
    go true h = omega arith
    go false h = omega (arith, h)

pub few_digits : (base : ℕ) (upper : Bool) (n : ℕ) → length (digits base upper n) ≤ 64
few_digits base upper n = let e = counted base upper n (count_on 64 base n) refl in omega (arith, few 64 base n, e)

-- the last digit, after some
pub no_more : (base n before count : ℕ) → 1 ≤ count → count ≤ 64 → n / base ≡ 0 → count_on (65 - count) base n + (count - 1) ≡ before → count ≡ before
unfolding count_on
no_more base n before count some few e h = go (65 - count) refl
  where
    go : (k : ℕ) → k ≡ 65 - count → count ≡ before
    go zero f = absurd (omega arith)
    go (suc k) f =
        let one : count_on (suc k) base n ≡ 1 = ap (λ (z : ℕ). if z == 0 then 1 else suc (count_on k base z)) e in
        let g : count_on (suc k) base n + (count - 1) ≡ before = ap (λ (z : ℕ). count_on z base n + (count - 1)) f ∙ h in
        omega arith

-- one more digit, after some
pub one_more : (base n before count : ℕ) → 1 ≤ count → count < 65 → n / base ≢ 0 → count_on (65 - count) base n + (count - 1) ≡ before
    → count_on (65 - (count + 1)) base (n / base) + (count + 1 - 1) ≡ before
unfolding count_on
one_more base n before count some few e h = go (65 - count) refl
  where
    go : (k : ℕ) → k ≡ 65 - count → count_on (65 - (count + 1)) base (n / base) + (count + 1 - 1) ≡ before
    go zero f = absurd (omega arith)
    go (suc k) f =
        let more : count_on (suc k) base n ≡ suc (count_on k base (n / base)) = ap (λ (z : Bool). if z then 1 else suc (count_on k base (n / base))) (ne_eqb (n / base) 0 e) in
        let g : count_on (suc k) base n + (count - 1) ≡ before = ap (λ (z : ℕ). count_on z base n + (count - 1)) f ∙ h in
        let left : 65 - (count + 1) ≡ k = omega arith in
        ap (λ (z : ℕ). count_on z base (n / base) + (count + 1 - 1)) left ∙ omega arith

-- as many as there can be
one_digit : (base n : ℕ) → count_on 1 base n ≡ 1
unfolding count_on
one_digit base n = go (n / base == 0)
  where
    go : (z : Bool) → ◌≡◌ {A = ℕ} (if z then 1 else suc (count_on 0 base (n / base))) 1
    go true = refl
    go false = refl

pub all_asked : (base n before count : ℕ) → count ≡ 64 → count_on (65 - count) base n + (count - 1) ≡ before → 64 ≡ before
all_asked base n before count e h =
    let one : 65 - count ≡ 1 = omega arith in
    let g : count_on 1 base n + (count - 1) ≡ before = ap (λ (k : ℕ). count_on k base n + (count - 1)) (sym one) ∙ h in
    omega (arith, g, e, one_digit base n)

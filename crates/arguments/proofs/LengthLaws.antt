-- A length in digits.
use Rattle.std.proofs.Common.{ℕ, ◌<◌, ◌≤◌, ◌≡◌, refl, subst, Bool, true, false, List, [], ◌∷◌, length, arith}
use Rattle.std.specs.Prelude.{◌==◌, ◌&&◌, nat_lt}
use Rattle.std.specs.List.{list_all}
use Rattle.std.specs.Str.Parse.{AllDigits, IsNumeral, digits_value, without_leading_plus}
use Rattle.std.proofs.lemmas.Str.Parse.{tells_digits}
use Rattle.std.proofs.lemmas.Bool.{ltb-true, leb-true, ne_eqb}
use Rattle.std.proofs.Math.Dec.{leb}
use Rattle.arguments.specs.Request.{is_digit}

both : (x y : Bool) → (x && y) ≡ true → (x ≡ true) × (y ≡ true)
both true y e = (refl, e)
both false y e = (e, grind arith)

not_below : (a b : ℕ) (t : Bool) → nat_lt a b ≡ t → ¬ (a < b) → nat_lt a b ≡ false
not_below a b true e h = absurd (h (ltb-true a b e))
not_below a b false e h = e

pub digits : (w : List ℕ) → list_all is_digit w ≡ true → AllDigits 10 w
digits [] h = tt
digits (c ∷ cs) h = let k = both (is_digit c) (list_all is_digit cs) h in let m = both (leb 48 c) (leb c 57) k.0 in tells_digits.more c cs (leb-true 48 c m.0, leb-true c 57 m.1) (digits cs k.1)

pub no_plus : (w : List ℕ) → list_all is_digit w ≡ true → without_leading_plus w ≡ w
no_plus [] h = refl
no_plus (c ∷ cs) h =
    let k = both (is_digit c) (list_all is_digit cs) h in let m = both (leb 48 c) (leb c 57) k.0 in
    let b : 48 ≤ c = leb-true 48 c m.0 in
    let e : (c == 43) ≡ false = ne_eqb c 43 (λ i. absurd (omega (arith, i))) in
    rw e refl

pub too_long : (w : List ℕ) → (length w == 0) ≡ false → list_all is_digit w ≡ true
    → ¬ (IsNumeral 10 (without_leading_plus w) × (digits_value 10 (without_leading_plus w) < 18446744073709551616)) → nat_lt (digits_value 10 w) 18446744073709551616 ≡ false
too_long w l h bad =
    let l' : 0 < length w = grind arith in
    let bad' : ¬ (IsNumeral 10 w × (digits_value 10 w < 18446744073709551616)) = subst (λ v. ¬ (IsNumeral 10 v × (digits_value 10 v < 18446744073709551616))) (no_plus w h) bad in
    not_below (digits_value 10 w) 18446744073709551616 _ refl (λ i. bad' ((l', digits w h), i))

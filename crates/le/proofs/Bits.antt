-- What a test of flags tells of the bits of a word: proved.
use Rattle.std.proofs.Common.{ℕ, ◌/◌, ◌%◌, ◌^◌, ◌≡◌, Bool, true, false, refl, ap, ◌∙◌, min, arith, eq-eqb}
use Rattle.std.specs.Prelude.{eqb, bit_and}
use Rattle.std.proofs.lemmas.Bool.{eqb-true, eqb-false}
use Rattle.std.specs.Int.{bit_at}
use Rattle.std.proofs.lemmas.Nat.Bits.{bit_at_and, bit_at-lt, bit_at-pow_same, bit_at-pow_other, same_from_bits}
use Rattle.le.specs.Le.{has}
use Rattle.le.specs.Bits.{IsSet, BitsMeant}

each : (word flags : ℕ) → has word flags ≡ true → (k : ℕ) → IsSet flags k → IsSet word k
each word flags h k set =
    let same : bit_at (bit_and word flags) k ≡ bit_at flags k = ap (λ (n : ℕ). bit_at n k) (eqb-true (bit_and word flags) flags h) in
    omega (arith, bit_at_and word flags k, same, set, bit_at-lt word k)

all : (word flags : ℕ) → ((k : ℕ) → IsSet flags k → IsSet word k) → has word flags ≡ true
all word flags h = eq-eqb (bit_and word flags) flags (same_from_bits _ _ (λ k. bit_at_and word flags k ∙ by k (eqb (bit_at flags k) 1) refl))
  where
    by : (k : ℕ) (set : Bool) → eqb (bit_at flags k) 1 ≡ set → min (bit_at word k) (bit_at flags k) ≡ bit_at flags k
    by k true e = let f = eqb-true (bit_at flags k) 1 e in omega (arith, f, h k f)
    by k false e = let f : bit_at flags k ≡ 0 = omega (arith, bit_at-lt flags k, eqb-false (bit_at flags k) 1 e) in omega (arith, f)

-- a flag of one bit has no other
alone : (k i : ℕ) → IsSet (2 ^ k) i → i ≡ k
alone k i set = by (eqb i k) refl
  where
    by : (same : Bool) → eqb i k ≡ same → i ≡ k
    by true e = eqb-true i k e
    by false e = absurd (omega (arith, set, bit_at-pow_other k i (eqb-false i k e)))

pub bits_meant : BitsMeant
bits_meant = record {
  flag = λ word k h. each word (2 ^ k) h k (bit_at-pow_same k);
  flagged = λ word k set. all word (2 ^ k) (λ i one. ap (λ (n : ℕ). word / 2 ^ n % 2) (alone k i one) ∙ set);
  each = each;
  all = all;
}

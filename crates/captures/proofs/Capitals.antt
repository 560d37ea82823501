-- Bytes in capitals are what the kit writes, and nothing else.
use Rattle.std.proofs.Common.{ℕ, zero, suc, ◌+◌, ◌*◌, ◌/◌, ◌%◌, ◌<◌, ◌≡◌, refl, sym, ap, ◌∙◌, List, [], ◌∷◌, length, get_or, arith}
use Rattle.hex.specs.Hex.{encode_with, upper_digits, encode_upper}
use Rattle.hex.proofs.HexLemmas.{length-encode_with}
use Rattle.captures.specs.Meaning.{Capitals}

twice : (k : ℕ) → 2 * suc k ≡ suc (suc (2 * k))
twice k = omega arith

twice_one : (k : ℕ) → 2 * suc k + 1 ≡ suc (suc (2 * k + 1))
twice_one k = omega arith

-- the digits behind those of the first byte
rest_capitals : (b a c : ℕ) (bytes digits : List ℕ) → Capitals (b ∷ bytes) (a ∷ c ∷ digits) → Capitals bytes digits
rest_capitals b a c bytes digits h = record {
  long = omega (arith, h.long);
  high = λ k l. ap (λ (n : ℕ). get_or (a ∷ c ∷ digits) n 0) (sym (twice k)) ∙ h.high (suc k) (omega (arith, l));
  low = λ k l. ap (λ (n : ℕ). get_or (a ∷ c ∷ digits) n 0) (sym (twice_one k)) ∙ h.low (suc k) (omega (arith, l));
}

pub capitals_are : (bytes digits : List ℕ) → Capitals bytes digits → digits ≡ encode_upper bytes
unfolding encode_with
capitals_are [] [] h = refl
capitals_are [] (a ∷ digits) h = absurd (omega (arith, h.long))
capitals_are (b ∷ bytes) [] h = absurd (omega (arith, h.long))
capitals_are (b ∷ bytes) (a ∷ []) h = absurd (omega (arith, h.long))
capitals_are (b ∷ bytes) (a ∷ c ∷ digits) h =
    let more = capitals_are bytes digits (rest_capitals b a c bytes digits h) in
    let high : a ≡ get_or upper_digits (b / 16) 0 = h.high 0 (omega arith) in
    let low : c ≡ get_or upper_digits (b % 16) 0 = h.low 0 (omega arith) in
    ap (λ (x : ℕ). x ∷ c ∷ digits) high ∙ ap (λ (x : ℕ). get_or upper_digits (b / 16) 0 ∷ x ∷ digits) low
    ∙ ap (λ (l : List ℕ). get_or upper_digits (b / 16) 0 ∷ get_or upper_digits (b % 16) 0 ∷ l) more

high_at : (bytes : List ℕ) (k : ℕ) → k < length bytes → get_or (encode_upper bytes) (2 * k) 0 ≡ get_or upper_digits (get_or bytes k 0 / 16) 0
unfolding encode_with
high_at [] k h = absurd (omega arith)
high_at (b ∷ bytes) zero h = refl
high_at (b ∷ bytes) (suc k) h = ap (λ (n : ℕ). get_or (encode_upper (b ∷ bytes)) n 0) (twice k) ∙ high_at bytes k (omega arith)

low_at : (bytes : List ℕ) (k : ℕ) → k < length bytes → get_or (encode_upper bytes) (2 * k + 1) 0 ≡ get_or upper_digits (get_or bytes k 0 % 16) 0
unfolding encode_with
low_at [] k h = absurd (omega arith)
low_at (b ∷ bytes) zero h = refl
low_at (b ∷ bytes) (suc k) h = ap (λ (n : ℕ). get_or (encode_upper (b ∷ bytes)) n 0) (twice_one k) ∙ low_at bytes k (omega arith)

pub are_capitals : (bytes : List ℕ) → Capitals bytes (encode_upper bytes)
are_capitals bytes = record { long = length-encode_with upper_digits bytes; high = high_at bytes; low = low_at bytes }

-- What a number in bytes is, and which bytes a part has: proved.
use Rattle.std.proofs.Common.{ℕ, ◌+◌, ◌*◌, ◌/◌, ◌%◌, ◌<◌, ◌≤◌, ◌≡◌, List, [], ◌∷◌, length, take, drop, get_or, refl, ap, ◌∙◌, arith, length-drop}
use lib.Seq.{get_or-drop}
use native.Mathlib.Nat.{add-zero}
use Rattle.std.proofs.lemmas.List.Elements.{All-nil, All-cons}
use Rattle.le.specs.Le.{le2, le4, bytes2, bytes4}
use Rattle.le.specs.Numbers.{low_first, IsBytes, NumbersMeant, PartsMeant}
use Rattle.le.proofs.Laws.{length_part, get_d_part}

-- the first two, and four, of some bytes
two_first : (t : List ℕ) → 2 ≤ length t → get_or t 0 0 + get_or t 1 0 * 256 ≡ low_first (take 2 t)
unfolding low_first
two_first [] h = absurd (omega arith)
two_first (a ∷ []) h = absurd (omega arith)
two_first (a ∷ b ∷ t) h = omega arith

four_first : (t : List ℕ) → 4 ≤ length t → get_or t 0 0 + get_or t 1 0 * 256 + get_or t 2 0 * 65536 + get_or t 3 0 * 16777216 ≡ low_first (take 4 t)
unfolding low_first
four_first [] h = absurd (omega arith)
four_first (a ∷ []) h = absurd (omega arith)
four_first (a ∷ b ∷ []) h = absurd (omega arith)
four_first (a ∷ b ∷ c ∷ []) h = absurd (omega arith)
four_first (a ∷ b ∷ c ∷ d ∷ t) h = omega arith

module _ (s : List ℕ) (at : ℕ) where
  byte : (k : ℕ) → get_or (drop at s) k 0 ≡ get_or s (at + k) 0
  byte k = get_or-drop at s k 0

  first : get_or (drop at s) 0 0 ≡ get_or s at 0
  first = byte 0 ∙ ap (λ (k : ℕ). get_or s k 0) (add-zero at)

  two_at : at + 2 ≤ length s → le2 s at ≡ low_first (take 2 (drop at s))
  unfolding le2
  two_at h = let a = first in let b = byte 1 in omega (arith, a, b, two_first (drop at s) (simp length-drop (omega arith)))

  four_at : at + 4 ≤ length s → le4 s at ≡ low_first (take 4 (drop at s))
  unfolding le4
  four_at h =
      let a = first in
      let b = byte 1 in
      let c = byte 2 in
      let d = byte 3 in
      omega (arith, a, b, c, d, four_first (drop at s) (simp length-drop (omega arith)))

abbrev is_byte : ℕ → Type 0
is_byte b = b < 256

in_two : (n : ℕ) → n < 65536 → IsBytes 2 n (bytes2 n)
unfolding low_first
in_two n h = record {
  long = refl;
  each = All-cons is_byte (n % 256) (n / 256 % 256 ∷ []) (omega arith) (All-cons is_byte (n / 256 % 256) [] (omega arith) (All-nil is_byte));
  is = omega arith;
}

in_four : (n : ℕ) → n < 4294967296 → IsBytes 4 n (bytes4 n)
unfolding low_first
in_four n h = record {
  long = refl;
  each = All-cons is_byte (n % 256) (n / 256 % 256 ∷ n / 256 / 256 % 256 ∷ n / 256 / 256 / 256 % 256 ∷ []) (omega arith)
      (All-cons is_byte (n / 256 % 256) (n / 256 / 256 % 256 ∷ n / 256 / 256 / 256 % 256 ∷ []) (omega arith)
      (All-cons is_byte (n / 256 / 256 % 256) (n / 256 / 256 / 256 % 256 ∷ []) (omega arith) (All-cons is_byte (n / 256 / 256 / 256 % 256) [] (omega arith) (All-nil is_byte))));
  is = omega arith;
}

pub numbers_meant : NumbersMeant
numbers_meant = record { two = two_at; four = four_at; in_two = in_two; in_four = in_four }

pub parts_meant : PartsMeant
parts_meant = record { long = length_part; byte = λ s at n k h. get_d_part s at n k 0 h }

-- Bytes as the numbers, strings and sections that they are.
use Rattle.std.proofs.Common.{ℕ, zero, suc, ◌+◌, ◌*◌, ◌/◌, ◌%◌, ◌<◌, ◌≤◌, ◌≡◌, refl, sym, ap, ap₂, ◌∙◌, Bool, true, false, List, [], ◌∷◌, ◌++◌, length, take, drop, get_or, arith}
use Rattle.std.specs.Prelude.{ltb}
use Rattle.std.specs.List.{All}
use borrow.Author.Tests.{ltb-true, ltb-false}
use Rattle.le.specs.Le.{le2, le4, bytes2, bytes4, part}
use mathlib.Core.List.{append_assoc}
use Rattle.le.proofs.Laws.{drop_part}

-- a byte of some bytes, or 0 behind them
past_0 : (s : List ℕ) (k : ℕ) → length s ≤ k → get_or s k 0 ≡ 0
past_0 [] k h = refl
past_0 (b ∷ s) zero h = absurd (omega arith)
past_0 (b ∷ s) (suc k) h = past_0 s k (omega arith)

pub is_byte : (s : List ℕ) (k : ℕ) → All (λ b. b < 256) s → get_or s k 0 < 256
is_byte s k h = by (ltb k (length s)) refl
  where
    by : (t : Bool) → ltb k (length s) ≡ t → get_or s k 0 < 256
    by true e = h k 0 (ltb-true k (length s) e)
    by false e = omega (arith, past_0 s k (ltb-false k (length s) e))

-- the byte at a place and those behind it
pub byte_then : (s : List ℕ) (at : ℕ) → at < length s → drop at s ≡ get_or s at 0 ∷ drop (suc at) s
byte_then [] at h = absurd (omega arith)
byte_then (b ∷ s) zero h = refl
byte_then (b ∷ s) (suc at) h = byte_then s at (omega arith)

one_by_one : (a b : ℕ) → a < 256 → b < 256 → a ∷ b ∷ [] ≡ bytes2 (a + b * 256)
one_by_one a b h k = ap₂ (λ (x y : ℕ). x ∷ y ∷ []) (omega arith) (omega arith)

pub two_then : (s : List ℕ) (at : ℕ) → All (λ b. b < 256) s → at + 2 ≤ length s → drop at s ≡ bytes2 (le2 s at) ++ drop (at + 2) s
unfolding le2
two_then s at h l =
    let a = is_byte s at h in
    let b = is_byte s (at + 1) h in
    let second : suc at ≡ at + 1 = omega arith in
    let third : suc (at + 1) ≡ at + 2 = omega arith in
    byte_then s at (omega arith)
    ∙ ap (λ (k : ℕ). get_or s at 0 ∷ drop k s) second
    ∙ ap (λ (x : List ℕ). get_or s at 0 ∷ x) (byte_then s (at + 1) (omega arith) ∙ ap (λ (k : ℕ). get_or s (at + 1) 0 ∷ drop k s) third)
    ∙ ap (λ (x : List ℕ). x ++ drop (at + 2) s) (one_by_one (get_or s at 0) (get_or s (at + 1) 0) a b)

four_by_four : (a b c d : ℕ) → a < 256 → b < 256 → c < 256 → d < 256 → a ∷ b ∷ c ∷ d ∷ [] ≡ bytes4 (a + b * 256 + c * 65536 + d * 16777216)
four_by_four a b c d h k m n =
    let n4 : ℕ = a + b * 256 + c * 65536 + d * 16777216 in
    let w : a ≡ n4 % 256 = omega arith in
    let x : b ≡ n4 / 256 % 256 = omega arith in
    let y : c ≡ n4 / 256 / 256 % 256 = omega arith in
    let z : d ≡ n4 / 256 / 256 / 256 % 256 = omega arith in
    ap₂ (λ (p q : ℕ). p ∷ q ∷ c ∷ d ∷ []) w x ∙ ap₂ (λ (p q : ℕ). n4 % 256 ∷ n4 / 256 % 256 ∷ p ∷ q ∷ []) y z

pub four_then : (s : List ℕ) (at : ℕ) → All (λ b. b < 256) s → at + 4 ≤ length s → drop at s ≡ bytes4 (le4 s at) ++ drop (at + 4) s
unfolding le4
four_then s at h l =
    let a = is_byte s at h in
    let b = is_byte s (at + 1) h in
    let c = is_byte s (at + 2) h in
    let d = is_byte s (at + 3) h in
    let one : suc at ≡ at + 1 = omega arith in
    let two : suc (at + 1) ≡ at + 2 = omega arith in
    let three : suc (at + 2) ≡ at + 3 = omega arith in
    let four : suc (at + 3) ≡ at + 4 = omega arith in
    let x = byte_then s at (omega arith) ∙ ap (λ (k : ℕ). get_or s at 0 ∷ drop k s) one in
    let y = byte_then s (at + 1) (omega arith) ∙ ap (λ (k : ℕ). get_or s (at + 1) 0 ∷ drop k s) two in
    let z = byte_then s (at + 2) (omega arith) ∙ ap (λ (k : ℕ). get_or s (at + 2) 0 ∷ drop k s) three in
    let w = byte_then s (at + 3) (omega arith) ∙ ap (λ (k : ℕ). get_or s (at + 3) 0 ∷ drop k s) four in
    x
    ∙ ap (λ (t : List ℕ). get_or s at 0 ∷ t) (y ∙ ap (λ (t : List ℕ). get_or s (at + 1) 0 ∷ t) (z ∙ ap (λ (t : List ℕ). get_or s (at + 2) 0 ∷ t) w))
    ∙ ap (λ (t : List ℕ). t ++ drop (at + 4) s) (four_by_four (get_or s at 0) (get_or s (at + 1) 0) (get_or s (at + 2) 0) (get_or s (at + 3) 0) a b c d)

pub two_small : (s : List ℕ) (at : ℕ) → All (λ b. b < 256) s → le2 s at < 65536
unfolding le2
two_small s at h =
    let a = is_byte s at h in
    let b = is_byte s (at + 1) h in
    omega arith

pub four_small : (s : List ℕ) (at : ℕ) → All (λ b. b < 256) s → le4 s at < 4294967296
unfolding le4
four_small s at h =
    let a = is_byte s at h in
    let b = is_byte s (at + 1) h in
    let c = is_byte s (at + 2) h in
    let d = is_byte s (at + 3) h in
    omega arith

-- a string, its end byte, and what is behind it
pub string_then : (s : List ℕ) (at n : ℕ) → at + n < length s → get_or s (at + n) 0 ≡ 0 → drop at s ≡ (take n (drop at s) ++ (0 ∷ [])) ++ drop (at + n + 1) s
unfolding part
string_then s at n h z =
    let next : suc (at + n) ≡ at + n + 1 = omega arith in
    drop_part s at n
    ∙ ap (λ (t : List ℕ). take n (drop at s) ++ t) (byte_then s (at + n) h ∙ ap₂ (λ (b k : ℕ). b ∷ drop k s) z next)
    ∙ sym (append_assoc (take n (drop at s)) (0 ∷ []) (drop (at + n + 1) s))

-- Laws of std's UTF-8: the bytes of a code point, and the longest front that is UTF-8. Assumes nothing.
use Rattle.std.proofs.Common.{◌≡◌, refl, sym, ap, ◌∙◌, subst, ◌⊎◌, inl, inr, ⊎_elim, ℕ, zero, suc, zero-le, suc-le-suc, ◌+◌, ◌-◌, ◌/◌, ◌%◌, ◌≤◌, ◌<◌, ◌&&◌, Bool, true, false, true≢false, List, [], ◌∷◌, ◌++◌, append_assoc, length, take, drop, get_or, IsUtf8, chars, encode_utf8_all, if◌then◌else◌, add-one, arith, length-append, length-take-le, take-append-drop, drop-cons, lt-ltb, le-ltb}
use Rattle.std.specs.Char.{IsScalar, encode_utf8}
use lib.Utf8.{scalar}
use Rattle.std.specs.Str.{is_utf8, all_scalars}
use Rattle.std.specs.Str.Lossy.{valid_len_up_to, utf8_valid_len}
use Rattle.std.proofs.lemmas.Str.{IsUtf8-nil, IsUtf8-encode, IsUtf8-append, IsUtf8-past_char, IsUtf8-from_is_utf8, is_utf8-from_IsUtf8, utf8_valid_len_le, chars_past_char}

pub le_or_lt : (a b : ℕ) → (a ≤ b) ⊎ (b < a)
le_or_lt zero b = inl zero-le
le_or_lt (suc a) zero = inr (suc-le-suc zero-le)
le_or_lt (suc a) (suc b) = ⊎_elim (λ p. inl (suc-le-suc p)) (λ q. inr (suc-le-suc q)) (le_or_lt a b)

pub utf8_1 : {p : ℕ} → p < 128 → encode_utf8 p ≡ p ∷ []
unfolding encode_utf8
utf8_1 {p} h = rw (lt-ltb p 128 h)

pub utf8_2 : {p : ℕ} → 128 ≤ p → p < 2048 → encode_utf8 p ≡ (192 + p / 64) ∷ (128 + p % 64) ∷ []
unfolding encode_utf8
utf8_2 {p} h k = rw (le-ltb p 128 h, lt-ltb p 2048 k)

pub utf8_3 : {p : ℕ} → 2048 ≤ p → p < 65536 → encode_utf8 p ≡ (224 + p / 4096) ∷ (128 + p / 64 % 64) ∷ (128 + p % 64) ∷ []
unfolding encode_utf8
utf8_3 {p} h k = rw (le-ltb p 128 (omega arith), le-ltb p 2048 h, lt-ltb p 65536 k)

utf8_4 : {p : ℕ} → 65536 ≤ p → encode_utf8 p ≡ (240 + p / 262144) ∷ (128 + p / 4096 % 64) ∷ (128 + p / 64 % 64) ∷ (128 + p % 64) ∷ []
unfolding encode_utf8
utf8_4 {p} h = rw (le-ltb p 128 (omega arith), le-ltb p 2048 (omega arith), le-ltb p 65536 h)

-- ---- how many bytes a code point takes
pub utf8_long : (p : ℕ) → (1 ≤ length (encode_utf8 p)) × (length (encode_utf8 p) ≤ 4) × (p < 65536 → length (encode_utf8 p) ≤ 3)
utf8_long p =
    ⊎_elim (λ h. ⊎_elim (λ i. ⊎_elim (λ j. let e = ap length (utf8_4 j) in (omega arith, omega arith, λ k. omega arith)) (λ j. let e = ap length (utf8_3 i j) in (omega arith, omega arith, λ k. omega arith)) (le_or_lt 65536 p))
    (λ i. let e = ap length (utf8_2 h i) in (omega arith, omega arith, λ k. omega arith)) (le_or_lt 2048 p))
    (λ h. let e = ap length (utf8_1 h) in (omega arith, omega arith, λ k. omega arith)) (le_or_lt 128 p)

pub at_front : (s : List ℕ) (at : ℕ) → at < length s → drop at s ≡ get_or s at 0 ∷ drop (at + 1) s
at_front s at h = rw (add-one, drop-cons s at 0)

-- ---- the longest front that is UTF-8: it is so, and none longer is
choice : (P : ℕ → Type 0) (b : Bool) (x y : ℕ) → (b ≡ true → P x) → P y → P (if b then x else y)
choice P true x y f g = f refl
choice P false x y f g = g

front_by : (l : List ℕ) (m : ℕ) → IsUtf8 (take (valid_len_up_to l m) l)
front_by l zero = IsUtf8-nil
front_by l (suc m) = choice (λ (n : ℕ). IsUtf8 (take n l)) (is_utf8 (take (suc m) l)) (suc m) (valid_len_up_to l m) (λ e. IsUtf8-from_is_utf8 (take (suc m) l) e) (front_by l m)

longest_by : (l : List ℕ) (m k : ℕ) → valid_len_up_to l m < k → k ≤ m → IsUtf8 (take k l) → ⊥
longest_by l zero k h i u = omega arith
longest_by l (suc m) k h i u = by (is_utf8 (take (suc m) l)) refl (λ g j. longest_by l m k g j u) h
  where
    by : (b : Bool) → is_utf8 (take (suc m) l) ≡ b → (valid_len_up_to l m < k → k ≤ m → ⊥) → (if b then suc m else valid_len_up_to l m) < k → ⊥
    by true e below g = omega arith
    by false e below g = ⊎_elim (λ j. below g j) (λ j.
        let q : k ≡ suc m = omega arith in
        let z : true ≡ false = sym (is_utf8-from_IsUtf8 (take (suc m) l) (subst (λ (n : ℕ). IsUtf8 (take n l)) q u)) ∙ e in
        absurd (true≢false z)) (le_or_lt k m)

pub valid_front : (l : List ℕ) → IsUtf8 (take (utf8_valid_len l) l)
unfolding utf8_valid_len
valid_front l = front_by l (length l)

longest : (l : List ℕ) (k : ℕ) → utf8_valid_len l < k → k ≤ length l → IsUtf8 (take k l) → ⊥
unfolding utf8_valid_len
longest l k h i u = longest_by l (length l) k h i u

valid_is : (l : List ℕ) (n : ℕ) → n ≤ length l → IsUtf8 (take n l) → ((k : ℕ) → n < k → k ≤ length l → IsUtf8 (take k l) → ⊥) → utf8_valid_len l ≡ n
valid_is l n h u none =
    ⊎_elim (λ i. ⊎_elim (λ j. omega arith) (λ j. absurd (longest l n j h u)) (le_or_lt n (utf8_valid_len l)))
    (λ i. absurd (none (utf8_valid_len l) i (utf8_valid_len_le l) (valid_front l))) (le_or_lt (utf8_valid_len l) n)

-- ---- a character at the front of a text, and what comes after it
take_past : (bs r : List ℕ) (n : ℕ) → take (length bs + n) (bs ++ r) ≡ bs ++ take n r
take_past [] r n = let e : 0 + n ≡ n = omega arith in rw e
take_past (b ∷ bs) r n = let e : suc (length bs) + n ≡ suc (length bs + n) = omega arith in rw e (ap (λ (l : List ℕ). b ∷ l) (take_past bs r n))

pub drop_past : (bs r : List ℕ) (n : ℕ) → drop (length bs + n) (bs ++ r) ≡ drop n r
drop_past [] r n = let e : 0 + n ≡ n = omega arith in rw e
drop_past (b ∷ bs) r n = let e : suc (length bs) + n ≡ suc (length bs + n) = omega arith in rw e (drop_past bs r n)

module _ (c : ℕ) (r : List ℕ) (v : IsScalar c) where
  more_front : IsUtf8 (take (length (encode_utf8 c) + utf8_valid_len r) (encode_utf8 c ++ r))
  more_front = subst IsUtf8 (sym (take_past (encode_utf8 c) r (utf8_valid_len r))) (IsUtf8-append (encode_utf8 c) (take (utf8_valid_len r) r) (IsUtf8-encode c v) (valid_front r))

  pub valid_more : utf8_valid_len (encode_utf8 c ++ r) ≡ length (encode_utf8 c) + utf8_valid_len r
  valid_more =
      let bs : List ℕ = encode_utf8 c in
      let n : ℕ = length bs + utf8_valid_len r in
      valid_is (bs ++ r) n (omega (arith, length-append bs r, utf8_valid_len_le r)) more_front (λ k h i u.
      let q : length bs + (k - length bs) ≡ k = omega arith in
      let e : take k (bs ++ r) ≡ bs ++ take (k - length bs) r = ap (λ (m : ℕ). take m (bs ++ r)) (sym q) ∙ take_past bs r (k - length bs) in
      longest r (k - length bs) (omega arith) (omega (arith, length-append bs r)) (IsUtf8-past_char (take k (bs ++ r)) (take (k - length bs) r) c u e))

  pub chars_more : chars (take (length (encode_utf8 c) + utf8_valid_len r) (encode_utf8 c ++ r)) ≡ c ∷ chars (take (utf8_valid_len r) r)
  chars_more = chars_past_char _ _ c more_front (take_past (encode_utf8 c) r (utf8_valid_len r))

both_true : (a b : Bool) → (a && b) ≡ true → (a ≡ true) × (b ≡ true)
both_true true b e = (refl, e)
both_true false b e = absurd (true≢false (sym e))

-- a text begins with a character, or none of it is UTF-8
pub record Opens (l : List ℕ) : Type 0 where
  pub char : ℕ
  pub after : List ℕ
  pub scalar : IsScalar char
  pub is : l ≡ encode_utf8 char ++ after

pub opens : (l : List ℕ) → (utf8_valid_len l ≡ 0) ⊎ Opens l
opens l = let u = valid_front l in by u.0 u.1.0 u.1.1
  where
    by : (cs : List ℕ) → all_scalars cs ≡ true → encode_utf8_all cs ≡ take (utf8_valid_len l) l → (utf8_valid_len l ≡ 0) ⊎ Opens l
    by [] s e = inl (omega (arith, ap length e, length-take-le (utf8_valid_len l) l (utf8_valid_len_le l)))
    by (c ∷ cs) s e = inr record {
      char = c;
      after = encode_utf8_all cs ++ drop (utf8_valid_len l) l;
      scalar = (both_true (scalar c) (all_scalars cs) s).0;
      is = sym (take-append-drop (utf8_valid_len l) l) ∙ ap (λ (x : List ℕ). x ++ drop (utf8_valid_len l) l) (sym e) ∙ append_assoc (encode_utf8 c) (encode_utf8_all cs) (drop (utf8_valid_len l) l);
    }

pub opened : {l : List ℕ} → Opens l → 0 < utf8_valid_len l
opened {l} o = omega (arith, ap utf8_valid_len o.is, valid_more o.char o.after o.scalar, (utf8_long o.char).0)

-- four bytes show whether a text begins with a character
pub four_show : (l : List ℕ) → (utf8_valid_len (take 4 l) ≡ 0 → utf8_valid_len l ≡ 0) × (utf8_valid_len l ≡ 0 → utf8_valid_len (take 4 l) ≡ 0)
four_show l = (λ e. ⊎_elim (λ z. z) (λ o. absurd (short o e)) (opens l), λ e. ⊎_elim (λ z. z) (λ o. absurd (long o e)) (opens (take 4 l)))
  where
    short : Opens l → utf8_valid_len (take 4 l) ≡ 0 → ⊥
    short o e =
        let bs : List ℕ = encode_utf8 o.char in
        let q : 4 ≡ length bs + (4 - length bs) = omega (arith, (utf8_long o.char).1) in
        let is : take 4 l ≡ bs ++ take (4 - length bs) o.after = ap (take 4) o.is ∙ ap (λ (n : ℕ). take n (bs ++ o.after)) q ∙ take_past bs o.after (4 - length bs) in
        omega (arith, opened (record { char = o.char; after = take (4 - length bs) o.after; scalar = o.scalar; is = is }), e)

    long : Opens (take 4 l) → utf8_valid_len l ≡ 0 → ⊥
    long o e =
        let is : l ≡ encode_utf8 o.char ++ (o.after ++ drop 4 l) = sym (take-append-drop 4 l) ∙ ap (λ (x : List ℕ). x ++ drop 4 l) o.is ∙ append_assoc (encode_utf8 o.char) o.after (drop 4 l) in
        omega (arith, opened (record { char = o.char; after = o.after ++ drop 4 l; scalar = o.scalar; is = is }), e)

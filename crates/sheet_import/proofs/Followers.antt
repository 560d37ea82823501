-- How many bytes more a text has than Windows-1252 has for it: each but the first of a character is 80 to BF.
use Rattle.std.proofs.Common.{ℕ, zero, suc, ◌+◌, ◌/◌, ◌%◌, ◌<◌, ◌≤◌, ◌≡◌, ⊎_elim, refl, sym, ap, ◌∙◌, Bool, true, false, List, [], ◌∷◌, ◌++◌, length, length-append, arith}
use Rattle.std.specs.Prelude.{leb, ltb, decimal, replicate, slice_index, encode_utf8, Ok, if◌then◌else◌}
use Rattle.std.proofs.lemmas.Fmt.{IsAscii-decimal}
use borrow.Author.Tests.{leb-true, le-leb, lt-ltb, le-ltb}
use Rattle.text.specs.RoundTrip.{AreBytes}
use Rattle.text.specs.Text.{code_point, text_of, decoded, encoded_from, counted}
use Rattle.text.proofs.Laws.{byte_low}
use Rattle.text.proofs.Utf8.{le_or_lt, utf8_2, utf8_3}
use Rattle.sheet_rows.specs.Meant.{IsCell, plain, quoted, IsEnd, crlf, lf, last, IsRow, ended, comma, IsNumber}
use Rattle.sheet_import.specs.Strings.{IsText}
use Rattle.sheet_import.proofs.Texts.{High, high_point, bytes_rest, decoded_cons, decoded_none}
use Rattle.sheet_import.proofs.StringsRead.{encoded_decoded}

unfoldable pub follows : ℕ → ℕ
follows b = if leb 128 b then if ltb b 192 then 1 else 0 else 0

follows_low : (b : ℕ) → b < 128 → follows b ≡ 0
unfolding follows
follows_low b h = by (leb 128 b) refl
  where
    by : (c : Bool) → leb 128 b ≡ c → ◌≡◌ {A = ℕ} (if c then if ltb b 192 then 1 else 0 else 0) 0
    by true e = absurd (omega (arith, leb-true 128 b e, h))
    by false e = refl

follows_mid : (b : ℕ) → 128 ≤ b → b < 192 → follows b ≡ 1
unfolding follows
follows_mid b h k = simp (le-leb 128 b h, lt-ltb b 192 k)

follows_high : (b : ℕ) → 192 ≤ b → follows b ≡ 0
unfolding follows
follows_high b h = let l : 128 ≤ b = omega (arith, h) in simp (le-leb 128 b l, le-ltb b 192 h)

unfoldable pub followers : List ℕ → ℕ
followers [] = 0
followers (b ∷ s) = follows b + followers s

pub followers_none : followers [] ≡ 0
unfolding followers
followers_none = refl

followers_cons : (b : ℕ) (s : List ℕ) → followers (b ∷ s) ≡ follows b + followers s
unfolding followers
followers_cons b s = refl

pub followers_low : (b : ℕ) (s : List ℕ) → b < 128 → followers (b ∷ s) ≡ followers s
followers_low b s h = omega (arith, followers_cons b s, follows_low b h)

pub followers_append : (x y : List ℕ) → followers (x ++ y) ≡ followers x + followers y
followers_append [] y = omega (arith, followers_none)
followers_append (b ∷ x) y = omega (arith, followers_cons b (x ++ y), followers_cons b x, followers_append x y)

-- ---- of a text
two_bytes : (a b : ℕ) → 192 ≤ a → 128 ≤ b → b < 192 → followers (a ∷ b ∷ []) ≡ 1
two_bytes a b h k l = omega (arith, followers_cons a (b ∷ []), followers_cons b [], followers_none, follows_high a h, follows_mid b k l)

three_bytes : (a b c : ℕ) → 192 ≤ a → 128 ≤ b → b < 192 → 128 ≤ c → c < 192 → followers (a ∷ b ∷ c ∷ []) ≡ 2
three_bytes a b c h k l m n = omega (arith, followers_cons a (b ∷ c ∷ []), followers_cons b (c ∷ []), followers_cons c [], followers_none, follows_high a h, follows_mid b k l, follows_mid c m n)

high_long : (p : ℕ) → High p → length (encode_utf8 p) ≡ 1 + followers (encode_utf8 p)
high_long p r = ⊎_elim three two (le_or_lt 2048 p)
  where
    three : 2048 ≤ p → length (encode_utf8 p) ≡ 1 + followers (encode_utf8 p)
    three l =
        let is = utf8_3 l r.few in
        omega (arith, ap length is, ap followers is, three_bytes (224 + p / 4096) (128 + p / 64 % 64) (128 + p % 64) (omega arith) (omega arith) (omega arith) (omega arith) (omega arith))

    two : p < 2048 → length (encode_utf8 p) ≡ 1 + followers (encode_utf8 p)
    two l =
        let is = utf8_2 r.low l in
        omega (arith, ap length is, ap followers is, two_bytes (192 + p / 64) (128 + p % 64) (omega arith) (omega arith) (omega arith))

text_long : (b : ℕ) → b < 256 → length (text_of b) ≡ 1 + followers (text_of b)
text_long b h = ⊎_elim high low (le_or_lt 128 b)
  where
    high : 128 ≤ b → length (text_of b) ≡ 1 + followers (text_of b)
    high l = high_long (code_point b) (high_point b l h)

    low : b < 128 → length (text_of b) ≡ 1 + followers (text_of b)
    low l = omega (arith, ap length (byte_low l), ap followers (byte_low l), followers_low b [] l, followers_none)

pub decoded_long : (s : List ℕ) → AreBytes s → length (decoded s) ≡ length s + followers (decoded s)
decoded_long [] h = omega (arith, ap length decoded_none, ap followers decoded_none, followers_none)
decoded_long (b ∷ s) h =
    omega (
      arith,
      ap length (decoded_cons b s),
      ap followers (decoded_cons b s),
      length-append (text_of b) (decoded s),
      followers_append (text_of b) (decoded s),
      text_long b (h 0),
      decoded_long s (bytes_rest b s h),
    )

-- how many bytes it takes, told by its length
pub counted_long : (t : List ℕ) (n : ℕ) → IsText t → counted 0 (encoded_from 0 t) ≡ Ok n → n + followers t ≡ length t
counted_long t n x e =
    let f : Ok (0 + length x.bytes) ≡ Ok n = sym (ap (λ (l : List ℕ). counted 0 (encoded_from 0 l)) x.is ∙ ap (counted 0) (encoded_decoded x.bytes x.are)) ∙ e in
    let same : 0 + length x.bytes ≡ n = cc in
    omega (arith, same, ap length x.is, ap followers x.is, decoded_long x.bytes x.are)

-- ---- of a row
followers_ascii : (s : List ℕ) → ((i : ℕ) → slice_index s i < 128) → followers s ≡ 0
followers_ascii [] h = followers_none
followers_ascii (b ∷ s) h = followers_low b s (h 0) ∙ followers_ascii s (λ i. h (suc i))

zeros_none : (z : ℕ) → followers (replicate z 48) ≡ 0
zeros_none zero = followers_none
zeros_none (suc z) = followers_low 48 (replicate z 48) (omega arith) ∙ zeros_none z

pub number_none : {text : List ℕ} {n : ℕ} → n < 4294967296 → IsNumber text n → followers text ≡ 0
number_none {text} {n} h i =
    omega (arith, ap followers i.is, followers_append (replicate i.zeros 48) (decimal n), zeros_none i.zeros, followers_ascii (decimal n) (IsAscii-decimal n (omega (arith, h))))

cell_same : {text cell : List ℕ} → IsCell text cell → followers cell ≡ followers text
cell_same (plain p) = refl
cell_same {text} (quoted p) =
    omega (arith, followers_low 34 (text ++ (34 ∷ [])) (omega arith), followers_append text (34 ∷ []), followers_low 34 [] (omega arith), followers_none)

end_same : {l rest : List ℕ} → IsEnd l rest → followers l ≡ followers rest
end_same (crlf {rest}) = followers_low 13 (10 ∷ rest) (omega arith) ∙ followers_low 10 rest (omega arith)
end_same (lf {rest}) = followers_low 10 rest (omega arith)
end_same last = refl

-- those of some texts
abbrev pub among : List (List ℕ) → ℕ
among [] = 0
among (t ∷ ts) = followers t + among ts

pub row_same : {texts : List (List ℕ)} {l rest : List ℕ} → IsRow texts l rest → followers l ≡ among texts + followers rest
row_same (ended {text} {cell} {end} {rest} c e) = omega (arith, followers_append cell end, cell_same c, end_same e)
row_same (comma {text} {cell} {more} {rest} {texts} c r) =
    omega (arith, followers_append cell (44 ∷ more), followers_low 44 more (omega arith), cell_same c, row_same r)

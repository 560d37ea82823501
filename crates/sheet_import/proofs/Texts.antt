-- A text within Windows-1252, parted at a character below 80.
use Rattle.std.proofs.Common.{ℕ, zero, suc, ◌-◌, ◌<◌, ◌≤◌, ◌≡◌, ⊎_elim, refl, sym, ap, ap₂, subst, ◌∙◌, Bool, true, false, T, List, [], ◌∷◌, ◌++◌, length, get_or, arith}
use Rattle.std.specs.Prelude.{eqb, leb, if◌then◌else◌}
use Rattle.std.specs.Char.{encode_utf8}
use borrow.Author.Tests.{leb-true, eqb-true, eqb-false}
use Rattle.text.specs.RoundTrip.{AreBytes}
use Rattle.text.specs.Text.{points, code_point, text_of, decoded}
use Rattle.text.proofs.Laws.{point_mid, point_high, byte_low}
use Rattle.text.proofs.Table.{every, at}
use Rattle.text.proofs.Utf8.{le_or_lt, utf8_2, utf8_3}
use Rattle.sheet_import.specs.Strings.{IsText}

-- ---- the bytes of a character above 7F are above 7F
pub record High (p : ℕ) : Type 0 where
  pub low : 128 ≤ p
  pub few : p < 65536

abbrev in_range : ℕ → ℕ → Bool
in_range i p = if leb 128 p then leb p 65535 else false

ranges : T (every in_range 0 points)
unfolding points
ranges = tt

in_table : (p : ℕ) → T (in_range 0 p) → High p
in_table p = by (leb 128 p) (leb p 65535) refl refl
  where
    by : (a b : Bool) → leb 128 p ≡ a → leb p 65535 ≡ b → T (if a then b else false) → High p
    by true true e f t = record { low = leb-true 128 p e; few = omega (arith, leb-true p 65535 f) }
    by true false e f t = absurd t
    by false b e f t = absurd t

points_long : length points ≡ 32
unfolding points
points_long = refl

pub high_point : (b : ℕ) → 128 ≤ b → b < 256 → High (code_point b)
high_point b h k = ⊎_elim upper middle (le_or_lt 160 b)
  where
    upper : 160 ≤ b → High (code_point b)
    upper l = subst High (sym (point_high l)) (record { low = h; few = omega arith })

    middle : b < 160 → High (code_point b)
    middle l = subst High (sym (point_mid h l)) (in_table (get_or points (b - 128) 0) (at in_range points ranges (b - 128) (omega (arith, points_long))))

-- no byte of a list is a given one
abbrev pub Avoids : ℕ → List ℕ → Type 0
Avoids c [] = Unit {0}
Avoids c (b ∷ s) = (b ≡ c → ⊥) × Avoids c s

high_avoids : (c p : ℕ) → c < 128 → High p → Avoids c (encode_utf8 p)
high_avoids c p h r = ⊎_elim three two (le_or_lt 2048 p)
  where
    three : 2048 ≤ p → Avoids c (encode_utf8 p)
    three l = subst (Avoids c) (sym (utf8_3 l r.few)) (λ e. omega (arith, e), (λ e. omega (arith, e), (λ e. omega (arith, e), tt)))

    two : p < 2048 → Avoids c (encode_utf8 p)
    two l = subst (Avoids c) (sym (utf8_2 r.low l)) (λ e. omega (arith, e), (λ e. omega (arith, e), tt))

-- the text of a byte has none but its own
pub text_avoids : (c b : ℕ) → c < 128 → b < 256 → (b ≡ c → ⊥) → Avoids c (text_of b)
text_avoids c b h k n = ⊎_elim high low (le_or_lt 128 b)
  where
    high : 128 ≤ b → Avoids c (text_of b)
    high l = high_avoids c (code_point b) h (high_point b l k)

    low : b < 128 → Avoids c (text_of b)
    low l = subst (Avoids c) (sym (byte_low l)) (n, tt)

-- what stands before a byte goes on where some bytes have none of it
record Front (u r x y : List ℕ) (c : ℕ) : Type 0 where
  more : List ℕ
  front : x ≡ u ++ more
  behind : r ≡ more ++ (c ∷ y)

front : (u r x y : List ℕ) (c : ℕ) → Avoids c u → u ++ r ≡ x ++ (c ∷ y) → Front u r x y c
front [] r x y c a e = record { more = x; front = refl; behind = e }
front (b ∷ u) r [] y c a e = absurd (a.0 cc)
front (b ∷ u) r (d ∷ x) y c a e =
    let head : b ≡ d = cc in
    let tail : u ++ r ≡ x ++ (c ∷ y) = cc in
    let f = front u r x y c a.1 tail in
    record { more = f.more; front = ap₂ (λ (h : ℕ) (l : List ℕ). h ∷ l) (sym head) f.front; behind = f.behind }

-- ---- bytes
pub bytes_rest : (b : ℕ) (s : List ℕ) → AreBytes (b ∷ s) → AreBytes s
bytes_rest b s h = λ k. h (suc k)

pub bytes_cons : (b : ℕ) (s : List ℕ) → b < 256 → AreBytes s → AreBytes (b ∷ s)
bytes_cons b s h k = all
  where
    all : (i : ℕ) → get_or (b ∷ s) i 0 < 256
    all zero = h
    all (suc i) = k i

pub bytes_none : AreBytes []
bytes_none k = omega arith

pub decoded_cons : (b : ℕ) (s : List ℕ) → decoded (b ∷ s) ≡ text_of b ++ decoded s
unfolding decoded
decoded_cons b s = refl

pub decoded_none : decoded [] ≡ []
unfolding decoded
decoded_none = refl

-- ---- a text parted at a character
record Parted (s x y : List ℕ) (c : ℕ) : Type 0 where
  left : List ℕ
  right : List ℕ
  left_bytes : AreBytes left
  right_bytes : AreBytes right
  left_is : x ≡ decoded left
  right_is : y ≡ decoded right
  whole : s ≡ left ++ (c ∷ right)

parted_on : {s x y : List ℕ} {c b : ℕ} → b < 256 → Parted s x y c → Parted (b ∷ s) (text_of b ++ x) y c
parted_on {s} {x} {y} {c} {b} h p = record {
  left = b ∷ p.left;
  right = p.right;
  left_bytes = bytes_cons b p.left h p.left_bytes;
  right_bytes = p.right_bytes;
  left_is = ap (λ (l : List ℕ). text_of b ++ l) p.left_is ∙ sym (decoded_cons b p.left);
  right_is = p.right_is;
  whole = ap (λ (l : List ℕ). b ∷ l) p.whole;
}

abbrev More : List ℕ → ℕ → Type 0
More s c = (l z : List ℕ) → decoded s ≡ l ++ (c ∷ z) → Parted s l z c

parted : (s x y : List ℕ) (c : ℕ) → c < 128 → AreBytes s → decoded s ≡ x ++ (c ∷ y) → Parted s x y c
parted [] x y c h k e = absurd (nothing x (sym decoded_none ∙ e))
  where
    nothing : (x : List ℕ) → [] ≡ x ++ (c ∷ y) → ⊥
    nothing [] f = cc
    nothing (a ∷ x) f = cc
parted (b ∷ s) x y c h k e = by (eqb b c) refl (λ l z f. parted s l z c h (bytes_rest b s k) f)
  where
    goes : text_of b ++ decoded s ≡ x ++ (c ∷ y)
    goes = sym (decoded_cons b s) ∙ e

    same : b ≡ c → c ∷ decoded s ≡ x ++ (c ∷ y)
    same f = ap (λ (l : List ℕ). l ++ decoded s) (sym (ap text_of f ∙ byte_low h)) ∙ goes

    here : b ≡ c → (l : List ℕ) → c ∷ decoded s ≡ l ++ (c ∷ y) → More s c → Parted (b ∷ s) l y c
    here f [] g more =
        let tail : decoded s ≡ y = cc in
        record {
          left = [];
          right = s;
          left_bytes = bytes_none;
          right_bytes = bytes_rest b s k;
          left_is = sym decoded_none;
          right_is = sym tail;
          whole = ap (λ (d : ℕ). d ∷ s) f;
        }
    here f (a ∷ l) g more =
        let head : c ≡ a = cc in
        let tail : decoded s ≡ l ++ (c ∷ y) = cc in
        let p = parted_on (k 0) (more l y tail) in
        let own : text_of b ++ l ≡ a ∷ l = ap (λ (t : List ℕ). t ++ l) (ap text_of f ∙ byte_low h) ∙ ap (λ (d : ℕ). d ∷ l) head in
        subst (λ (t : List ℕ). Parted (b ∷ s) t y c) own p

    by : (q : Bool) → eqb b c ≡ q → More s c → Parted (b ∷ s) x y c
    by true f more = here (eqb-true b c f) x (same (eqb-true b c f)) more
    by false f more =
        let g = front (text_of b) (decoded s) x y c (text_avoids c b h (k 0) (eqb-false b c f)) goes in
        subst (λ (t : List ℕ). Parted (b ∷ s) t y c) (sym g.front) (parted_on (k 0) (more g.more y g.behind))

-- what stands before a character below 80, and what stands behind it
pub text_before : (x y : List ℕ) (c : ℕ) → c < 128 → IsText (x ++ (c ∷ y)) → IsText x
text_before x y c h t = let p = parted t.bytes x y c h t.are (sym t.is) in record { bytes = p.left; are = p.left_bytes; is = p.left_is }

pub text_behind : (x y : List ℕ) (c : ℕ) → c < 128 → IsText (x ++ (c ∷ y)) → IsText y
text_behind x y c h t = let p = parted t.bytes x y c h t.are (sym t.is) in record { bytes = p.right; are = p.right_bytes; is = p.right_is }

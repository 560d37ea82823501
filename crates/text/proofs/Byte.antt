-- The byte of a code point: what is found, the rule of the table, and the search in it as a sum. Assumes nothing.
use Rattle.std.proofs.Common.{◌≡◌, refl, sym, ap, subst, ◌∙◌, ◌⊎◌, inl, inr, ⊎_elim, Option, Some, None, unwrap_or, List, [], ◌∷◌, Bool, true, false, T, ltb, leb, eqb, ltb→lt, leb→le, eqb→eq, ℕ, zero, suc, ◌+◌, ◌-◌, ◌*◌, ◌≤◌, ◌<◌, add-zero, add-one, arith, length, get_or, find, length-append, le-ltb, eq-eqb, ne_eqb, eqb-true, if◌then◌else◌}
use Rattle.std.specs.List.{range_with_len}
use native.Mathlib.Nat.{add-sub_cancel_left}
use Rattle.text.proofs.Table.{both, both_left, both_right, at}
use Rattle.text.proofs.Utf8.{le_or_lt, utf8_long}
use Rattle.text.proofs.Laws.{point_low, point_mid, point_high}
use Rattle.text.specs.Text.{points, code_point, text_of, decoded, byte_of}

-- ---- the search: what is found has the code point, and it is found where a byte has it
abbrev pub among : ℕ → ℕ → ℕ → Option ℕ
among n b p = find (λ (c : ℕ). eqb (code_point c) p) (range_with_len b n)

sound_by : (t : Bool) (n b p c : ℕ) → eqb (code_point b) p ≡ t → (among n (b + 1) p ≡ Some c → (code_point c ≡ p) × (c < b + 1 + n)) → (if t then Some b else among n (b + 1) p) ≡ Some c → (code_point c ≡ p) × (c < b + suc n)
sound_by true n b p c u rest v =
    let q : b ≡ c = cc in
    (ap code_point (sym q) ∙ eqb-true (code_point b) p u, omega arith)
sound_by false n b p c u rest v =
    let r = rest v in
    (r.0, omega arith)

sound : (n b p c : ℕ) → among n b p ≡ Some c → (code_point c ≡ p) × (c < b + n)
sound zero b p c e = let z : ◌≡◌ {A = ℕ} 0 1 = cc in absurd (omega arith)
sound (suc n) b p c e = sound_by (eqb (code_point b) p) n b p c refl (sound n (b + 1) p c) e

pub byte_sound : {p b : ℕ} → byte_of p ≡ Some b → (code_point b ≡ p) × (b < 256)
unfolding byte_of
byte_sound {p} {b} e = let s = sound 256 0 p b e in (s.0, omega (arith, s.1))

found : (n b p k : ℕ) → k < n → code_point (b + k) ≡ p → among n b p ≡ None → ⊥
found zero b p k h e f = omega arith
found (suc n) b p zero h e f =
    let t = eq-eqb (code_point b) p (ap code_point (sym (add-zero b)) ∙ e) in
    let g : Some b ≡ None = sym (ap (λ (t : Bool). if t then Some b else among n (b + 1) p) t) ∙ f in
    let z : ◌≡◌ {A = ℕ} 0 1 = cc in
    omega arith
found (suc n) b p (suc k) h e f =
    let r : b + 1 + k ≡ b + suc k = omega arith in
    on (eqb (code_point b) p) f (found n (b + 1) p k (omega arith) (ap code_point r ∙ e))
  where
    on : (t : Bool) → (if t then Some b else among n (b + 1) p) ≡ None → (among n (b + 1) p ≡ None → ⊥) → ⊥
    on true g rest = let z : ◌≡◌ {A = ℕ} 0 1 = cc in omega arith
    on false g rest = rest g

-- ---- the table's rule, at all of its entries: above 7F, outside A0 to FF, and of two bytes or of three that begin with E2
outside : ℕ → Bool
outside x = if ltb x 0xA0 then true else leb 0x100 x

narrow : ℕ → Bool
narrow x = if ltb x 0x800 then true else both (leb 0x2000 x) (ltb x 0x3000)

rule : ℕ → ℕ → Bool
rule k x = both (leb 0x80 x) (both (outside x) (narrow x))

abbrev pub IsNarrow : ℕ → Type 0
IsNarrow x = (x < 0x800) ⊎ ((0x2000 ≤ x) × (x < 0x3000))

abbrev pub IsApart : ℕ → Type 0
IsApart x = (x < 160) ⊎ (256 ≤ x)

pub record Ruled (x : ℕ) : Type 0 where
  pub high : 128 ≤ x
  pub apart : IsApart x
  pub width : IsNarrow x

side : (x : ℕ) → T (outside x) → IsApart x
unfolding outside
side x t = ⊎_elim (λ h. inr (leb→le 256 x (rw (le-ltb x 160 h) at t))) inl (le_or_lt 160 x)

is_narrow : (x : ℕ) → T (narrow x) → IsNarrow x
unfolding narrow
is_narrow x t = ⊎_elim (λ h. let u = rw (le-ltb x 0x800 h) at t in inr (leb→le 0x2000 x (both_left (leb 0x2000 x) (ltb x 0x3000) u), ltb→lt x 0x3000 (both_right (leb 0x2000 x) (ltb x 0x3000) u))) inl (le_or_lt 0x800 x)

pub below_surrogates : {x : ℕ} → IsNarrow x → x < 0xD800
below_surrogates h = ⊎_elim (λ l. omega arith) (λ l. omega arith) h

ruled : (x : ℕ) → T (both (leb 0x80 x) (both (outside x) (narrow x))) → Ruled x
ruled x t =
    let u = both_right (leb 0x80 x) (both (outside x) (narrow x)) t in
    record { high = leb→le 128 x (both_left (leb 0x80 x) (both (outside x) (narrow x)) t); apart = side x (both_left (outside x) (narrow x) u); width = is_narrow x (both_right (outside x) (narrow x) u) }

pub points_ruled : (k : ℕ) → k < 32 → Ruled (get_or points k 0)
unfolding points rule outside narrow
points_ruled k h = ruled (get_or points k 0) (at rule points tt k h)

table_point : (i : ℕ) → i < 32 → code_point (128 + i) ≡ get_or points i 0
table_point i h = point_mid {b = 128 + i} (omega arith) (omega arith) ∙ ap (λ (j : ℕ). get_or points j 0) (add-sub_cancel_left 128 i)

-- what a look at the table gives for a byte from 80 to 9F
pub record Looked (table : List ℕ) (b : ℕ) : Type 0 where
  pub is : get_or table (b - 128) 0 ≡ code_point b
  pub high : 128 ≤ get_or table (b - 128) 0

pub looked : {table : List ℕ} → table ≡ points → (b : ℕ) → 128 ≤ b → b < 160 → Looked table b
looked {table} e b h k =
    let q : get_or table (b - 128) 0 ≡ get_or points (b - 128) 0 = ap (λ (l : List ℕ). get_or l (b - 128) 0) e in
    record { is = q ∙ sym (point_mid h k); high = omega (arith, (points_ruled (b - 128) (omega arith)).high) }

-- ---- the search in the table, as a sum over all of its entries: the byte of each that is p
unfoldable pub sum_to : ℕ → ℕ → ℕ
sum_to zero p = 0
sum_to (suc i) p = sum_to i p + (if eqb (get_or points i 0) p then 128 + i else 0)

pub sum_step : (i p : ℕ) → sum_to (i + 1) p ≡ sum_to i p + (if eqb (get_or points i 0) p then 128 + i else 0)
unfolding sum_to
sum_step i p = simp add-one

summed : ℕ → ℕ → Bool
summed k x = eqb (sum_to 32 x) (128 + k)

sum_here : (k : ℕ) → k < 32 → sum_to 32 (get_or points k 0) ≡ 128 + k
unfolding points summed sum_to
sum_here k h = eqb→eq (sum_to 32 (get_or points k 0)) (128 + k) (at summed points tt k h)

sum_none : (p i : ℕ) → i ≤ 32 → ((k : ℕ) → k < 32 → get_or points k 0 ≡ p → ⊥) → sum_to i p ≡ 0
unfolding sum_to
sum_none p zero l h = refl
sum_none p (suc i) l h = simp (sum_none p i (omega arith) h, ne_eqb (get_or points i 0) p (h i (omega arith)))

-- ---- every byte has a code point of its own, that is a scalar value
data Kind (b : ℕ) : Type 0 where
  itself : code_point b ≡ b → (b < 128) ⊎ (160 ≤ b) → Kind b
  inside : 128 ≤ b → b < 160 → code_point b ≡ get_or points (b - 128) 0 → Kind b

kind : (b : ℕ) → Kind b
kind b = ⊎_elim (λ h. ⊎_elim (λ i. itself (point_high i) (inr i)) (λ i. inside h i (point_mid h i)) (le_or_lt 160 b)) (λ h. itself (point_low h) (inl h)) (le_or_lt 128 b)

pub narrow_point : (b : ℕ) → b < 256 → IsNarrow (code_point b)
narrow_point b h = by (kind b)
  where
    by : Kind b → IsNarrow (code_point b)
    by (itself e _) = inl (omega arith)
    by (inside l m e) = subst IsNarrow (sym e) (points_ruled (b - 128) (omega arith)).width

-- two bytes with one code point are one
injective : (a b : ℕ) → a < 256 → b < 256 → code_point a ≡ code_point b → a ≡ b
injective a b h k e = by (kind a) (kind b)
  where
    apart : (c d : ℕ) → c < 256 → (c < 128) ⊎ (160 ≤ c) → 128 ≤ d → d < 160 → c ≡ get_or points (d - 128) 0 → a ≡ b
    apart c d l s m n q =
        let r = points_ruled (d - 128) (omega arith) in
        absurd (⊎_elim (λ u. omega (arith, r.high)) (λ u. ⊎_elim (λ v. omega arith) (λ v. omega arith) r.apart) s)

    by : Kind a → Kind b → a ≡ b
    by (itself f s) (itself g t) = sym f ∙ e ∙ g
    by (itself f s) (inside l m g) = apart a b h s l m (sym f ∙ e ∙ g)
    by (inside l m f) (itself g t) = apart b a k t l m (sym g ∙ sym e ∙ f)
    by (inside l m f) (inside n o g) =
        let q : 128 + (a - 128) ≡ 128 + (b - 128) = sym (sum_here (a - 128) (omega arith)) ∙ ap (sum_to 32) (sym f ∙ e ∙ g) ∙ sum_here (b - 128) (omega arith) in
        omega arith

missing : (b : ℕ) → b < 256 → byte_of (code_point b) ≡ None → ⊥
unfolding byte_of
missing b h e = let q : 0 + b ≡ b = omega arith in found 256 0 (code_point b) b h (ap code_point q) e

pub own : (b : ℕ) → b < 256 → byte_of (code_point b) ≡ Some b
own b h = by (byte_of (code_point b)) refl
  where
    by : (f : Option ℕ) → byte_of (code_point b) ≡ f → f ≡ Some b
    by (Some c) e = let s = byte_sound e in ap Some (injective c b s.1 h s.0)
    by None e = absurd (missing b h e)

-- the byte of a code point above 7F that is outside A0 to FF is the sum; in there it is its own
sum_some : (p b : ℕ) → IsApart p → Kind b → code_point b ≡ p → 128 ≤ p → b < 256 → sum_to 32 p ≡ b
sum_some p b a (itself f t) q h below = absurd (⊎_elim (λ u. omega arith) (λ u. ⊎_elim (λ v. omega arith) (λ v. omega arith) a) t)
sum_some p b a (inside l m f) q h below =
    let r : 128 + (b - 128) ≡ b = omega arith in
    ap (sum_to 32) (sym q ∙ f) ∙ sum_here (b - 128) (omega arith) ∙ r

pub sum_is : (p : ℕ) → 128 ≤ p → IsApart p → sum_to 32 p ≡ unwrap_or (byte_of p) 0
sum_is p h a = by (byte_of p) refl
  where
    by : (f : Option ℕ) → byte_of p ≡ f → sum_to 32 p ≡ unwrap_or f 0
    by (Some b) e = sum_some p b a (kind b) (byte_sound e).0 h (byte_sound e).1
    by None e = sum_none p 32 (omega arith) (λ k l q.
        let f : Some (128 + k) ≡ None = sym (own (128 + k) (omega arith)) ∙ ap byte_of (table_point k l ∙ q) ∙ e in
        let z : ◌≡◌ {A = ℕ} 0 1 = cc in
        omega arith)

pub byte_high : (p : ℕ) → 160 ≤ p → p < 256 → byte_of p ≡ Some p
byte_high p h l = ap byte_of (sym (point_high h)) ∙ own p l

-- the text of a byte takes at most three bytes, and that of a byte string at most three times as many
pub text_most : (b : ℕ) → b < 256 → length (text_of b) ≤ 3
text_most b h = (utf8_long (code_point b)).2 (omega (arith, below_surrogates (narrow_point b h)))

pub decoded_most : (s : List ℕ) → ((k : ℕ) → get_or s k 0 < 256) → length (decoded s) ≤ 3 * length s
unfolding decoded
decoded_most [] h = omega arith
decoded_most (b ∷ s) h = omega (arith, length-append (text_of b) (decoded s), text_most b (h 0), decoded_most s (λ k. h (suc k)))

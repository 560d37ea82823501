-- Laws of cells: of decimal numbers, and of bytes that are written one after another.
use Rattle.std.proofs.Common.{ℕ, ◌+◌, ◌*◌, ◌/◌, ◌%◌, ◌≤◌, ◌<◌, ◌≡◌, refl, sym, ap, ◌∙◌, length, List, [], ◌∷◌, ◌++◌, take, get_or, append-nil, length-append, arith}
use Rattle.std.specs.Prelude.{decimal, eqb, true, false, Bool, if◌then◌else◌}
use Rattle.std.specs.List.{flat_map, list_any}
use Rattle.std.proofs.lemmas.Grind.{flat_map-append}
use Rattle.std.proofs.lemmas.List.Folds.{length-flat_map-take}
use Rattle.std.proofs.lemmas.Fmt.{length-decimal-le, decimal_digit, decimal_step}
use borrow.Author.Tests.{ne_eqb}
use Rattle.le.proofs.Laws.{take_more}
use Rattle.text.specs.Text.{text_of}
use Rattle.sheet.specs.Cells.{is_special, escaped, escaped_all, cell}

pub decimal_most : (n : ℕ) → n < 4294967296 → length (decimal n) ≤ 10
decimal_most n h = length-decimal-le 10 n (omega arith) (omega arith) (omega arith)

pub last_digit : (n : ℕ) → 10 ≤ n → n < 4294967296 → decimal n ≡ decimal (n / 10) ++ ((48 + n % 10) ∷ [])
last_digit n h k = decimal_step n h (omega arith)

pub digits_long : (n : ℕ) → 10 ≤ n → n < 4294967296 → length (decimal n) ≡ length (decimal (n / 10)) + 1
digits_long n h k = omega (arith, ap length (last_digit n h k), length-append (decimal (n / 10)) ((48 + n % 10) ∷ []))

pub escaped_more : (s : List ℕ) (i : ℕ) → i < length s → escaped_all (take i s) ++ escaped (get_or s i 0) ≡ escaped_all (take (i + 1) s)
unfolding escaped_all
escaped_more s i h =
    ap (λ (l : List ℕ). escaped_all (take i s) ++ l) (sym (append-nil (escaped (get_or s i 0))))
    ∙ sym (flat_map-append escaped (take i s) (get_or s i 0 ∷ []))
    ∙ ap escaped_all (take_more s i h)

pub escaped_long : (s : List ℕ) (i : ℕ) → i < length s → length (escaped_all (take i s)) + length (escaped (get_or s i 0)) ≡ length (escaped_all (take (i + 1) s))
escaped_long s i h = omega (arith, ap length (escaped_more s i h), length-append (escaped_all (take i s)) (escaped (get_or s i 0)))

pub escaped_room : (s : List ℕ) (i : ℕ) → i < length s → length (escaped_all (take i s)) + length (escaped (get_or s i 0)) ≤ length (escaped_all s)
unfolding escaped_all
escaped_room s i h = length-flat_map-take escaped s i 0 h

-- where a loop begins
pub escaped_none : escaped_all [] ≡ []
unfolding escaped_all
escaped_none = refl

pub quote_doubled : (b : ℕ) → b ≡ 34 → escaped b ≡ 34 ∷ 34 ∷ []
unfolding escaped
quote_doubled b e = simp e

pub text_kept : (b : ℕ) → (b ≡ 34 → ⊥) → escaped b ≡ text_of b
unfolding escaped
text_kept b e = simp (ne_eqb b 34 e)

pub cell_plain : (s : List ℕ) → list_any is_special s ≡ false → cell s ≡ escaped_all s
unfolding cell
cell_plain s e = simp e

pub cell_quoted : (s : List ℕ) → list_any is_special s ≡ true → cell s ≡ 34 ∷ (escaped_all s ++ (34 ∷ []))
unfolding cell
cell_quoted s e = simp e

pub quoted_long : (s : List ℕ) → list_any is_special s ≡ true → length (cell s) ≡ length (escaped_all s) + 2
quoted_long s e = omega (arith, ap length (cell_quoted s e), length-append (escaped_all s) (34 ∷ []))

pub cell_long : (s : List ℕ) → length (cell s) ≡ (if list_any is_special s then 2 else 0) + length (escaped_all s)
cell_long s = by (list_any is_special s) refl
  where
    by : (b : Bool) → list_any is_special s ≡ b → length (cell s) ≡ (if b then 2 else 0) + length (escaped_all s)
    by true e = omega (arith, quoted_long s e)
    by false e = omega (arith, ap length (cell_plain s e))

pub one_digit : (n : ℕ) → n < 10 → (48 + n % 10) ∷ [] ≡ decimal n
one_digit n h = let e : n % 10 ≡ n = omega arith in ap (λ (k : ℕ). (48 + k) ∷ []) e ∙ sym (decimal_digit n h)

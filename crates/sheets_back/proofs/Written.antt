-- What is written of an entry is read as a row.
use Rattle.std.proofs.Common.{ℕ, zero, suc, ◌+◌, ◌/◌, ◌%◌, ◌<◌, ◌≤◌, ◌≡◌, refl, sym, ap, ap₂, subst, ◌∙◌, Bool, true, false, List, [], ◌∷◌, ◌++◌, get_or, append-nil, arith}
use Rattle.std.specs.Prelude.{leb, decimal}
use Rattle.std.specs.List.{All}
use Rattle.std.proofs.lemmas.List.Elements.{All-nil, All-cons, All-head, All-rest}
use Rattle.std.proofs.lemmas.Fmt.{decimal_digit, IsAscii-decimal}
use borrow.Author.Tests.{leb-true, leb-false}
use Rattle.text.specs.RoundTrip.{AreBytes}
use Rattle.text.specs.Text.{text_of, decoded}
use Rattle.text.proofs.Laws.{decoded_same}
use Rattle.sheet.specs.Cells.{escaped_all}
use Rattle.sheet.specs.CellsMeant.{IsPlain, Doubled, none as doubled_none, quote as doubled_quote, other as doubled_other, IsCell as IsSheetCell, plain as sheet_plain, quoted as sheet_quoted}
use Rattle.sheet.proofs.Meant.{doubled_one}
use Rattle.sheet.proofs.Escapes.{last_digit}
use Rattle.sheet_rows.specs.Meant.{IsPaired, none, quotes, other, IsCell, plain, quoted}
use Rattle.sheet_import.specs.Strings.{IsText}
use Rattle.sheet_import.proofs.Texts.{Avoids, text_avoids, bytes_rest, bytes_none, decoded_cons, decoded_none}
use Rattle.sheet_import.proofs.StringsRead.{doubled_bytes, escaped_doubled, escaped_plain, escaped_none, decoded_append, bytes_both}

-- ---- lists without some bytes
avoids_join : (c : ℕ) (u v : List ℕ) → Avoids c u → Avoids c v → Avoids c (u ++ v)
avoids_join c [] v a b = b
avoids_join c (x ∷ u) v a b = (a.0, avoids_join c u v a.1 b)

avoids_plain : (u : List ℕ) → Avoids 44 u → Avoids 34 u → Avoids 13 u → Avoids 10 u → All IsPlain u
avoids_plain [] a b c d = All-nil IsPlain
avoids_plain (x ∷ u) a b c d = All-cons IsPlain x u (record { comma = a.0; quote = b.0; return = c.0; feed = d.0 }) (avoids_plain u a.1 b.1 c.1 d.1)

decoded_avoids : (c : ℕ) (s : List ℕ) → c < 128 → AreBytes s → Avoids c s → Avoids c (decoded s)
decoded_avoids c [] l h a = subst (Avoids c) (sym decoded_none) tt
decoded_avoids c (b ∷ s) l h a =
    subst (Avoids c) (sym (decoded_cons b s)) (avoids_join c (text_of b) (decoded s) (text_avoids c b l (h 0) a.0) (decoded_avoids c s l (bytes_rest b s h) a.1))

plain_avoids : (c : ℕ) (s : List ℕ) → ((b : ℕ) → IsPlain b → b ≡ c → ⊥) → All IsPlain s → Avoids c s
plain_avoids c [] f h = tt
plain_avoids c (b ∷ s) f h = (f b (All-head IsPlain b s h), plain_avoids c s f (All-rest IsPlain _ _ _ refl h))

plain_decoded : (s : List ℕ) → AreBytes s → All IsPlain s → All IsPlain (decoded s)
plain_decoded s h p = avoids_plain (decoded s)
    (decoded_avoids 44 s (omega arith) h (plain_avoids 44 s (λ b q. q.comma) p))
    (decoded_avoids 34 s (omega arith) h (plain_avoids 34 s (λ b q. q.quote) p))
    (decoded_avoids 13 s (omega arith) h (plain_avoids 13 s (λ b q. q.return) p))
    (decoded_avoids 10 s (omega arith) h (plain_avoids 10 s (λ b q. q.feed) p))

-- ---- cells
paired_join : (u r : List ℕ) → Avoids 34 u → IsPaired r → IsPaired (u ++ r)
paired_join [] r a p = p
paired_join (b ∷ u) r a p = other a.0 (paired_join u r a.1 p)

doubled_paired : {s text : List ℕ} → AreBytes s → Doubled s text → IsPaired text
doubled_paired h doubled_none = none
doubled_paired h (doubled_quote {s} {text} d) = quotes (doubled_paired (bytes_rest 34 s h) d)
doubled_paired h (doubled_other {b} {s} {text} n d) = paired_join (text_of b) text (text_avoids 34 b (omega arith) (h 0) n) (doubled_paired (bytes_rest b s h) d)

plain_text : (s : List ℕ) → All IsPlain s → escaped_all s ≡ decoded s
plain_text s p =
    ap escaped_all (sym (append-nil s)) ∙ escaped_plain s [] (plain_avoids 34 s (λ b q. q.quote) p)
    ∙ ap (λ (l : List ℕ). decoded s ++ l) escaped_none ∙ append-nil (decoded s)

pub cell_back : {s cell : List ℕ} → AreBytes s → IsSheetCell s cell → IsCell (escaped_all s) cell
cell_back {s} {cell} h (sheet_plain p) = subst (λ (l : List ℕ). IsCell l (decoded s)) (sym (plain_text s p)) (plain (plain_decoded s h p))
cell_back {s} {cell} h (sheet_quoted {text} n d) = subst (λ (l : List ℕ). IsCell l (34 ∷ (text ++ (34 ∷ [])))) (sym (doubled_one d)) (quoted (doubled_paired h d))

-- ---- numbers
digits_avoid : (k n c : ℕ) → n < k → n < 4294967296 → c < 48 → Avoids c (decimal n)
digits_avoid zero n c h l m = absurd (omega arith)
digits_avoid (suc k) n c h l m = by (leb 10 n) refl (λ d. digits_avoid k (n / 10) c (omega arith) (omega arith) m)
  where
    by : (b : Bool) → leb 10 n ≡ b → (10 ≤ n → Avoids c (decimal (n / 10))) → Avoids c (decimal n)
    by true e f =
        let d = leb-true 10 n e in
        subst (Avoids c) (sym (last_digit n d l)) (avoids_join c (decimal (n / 10)) ((48 + n % 10) ∷ []) (f d) (λ g. omega (arith, g), tt))
    by false e f = subst (Avoids c) (sym (decimal_digit n (leb-false 10 n e))) (λ g. omega (arith, g), tt)

pub number_cell : (n : ℕ) → n < 4294967296 → IsCell (decimal n) (decimal n)
number_cell n h = plain (avoids_plain (decimal n)
    (digits_avoid (suc n) n 44 (omega arith) h (omega arith)) (digits_avoid (suc n) n 34 (omega arith) h (omega arith))
    (digits_avoid (suc n) n 13 (omega arith) h (omega arith)) (digits_avoid (suc n) n 10 (omega arith) h (omega arith)))

-- ---- text
pub text_none : IsText []
text_none = record { bytes = []; are = bytes_none; is = sym decoded_none }

pub text_both : (a b : List ℕ) → IsText a → IsText b → IsText (a ++ b)
text_both a b x y = record {
  bytes = x.bytes ++ y.bytes;
  are = bytes_both x.bytes y.bytes x.are y.are;
  is = ap₂ (λ (p q : List ℕ). p ++ q) x.is y.is ∙ sym (decoded_append x.bytes y.bytes);
}

pub text_ascii : (s : List ℕ) → ((k : ℕ) → get_or s k 0 < 128) → IsText s
text_ascii s h = record { bytes = s; are = λ k. omega (arith, h k); is = sym (decoded_same s h) }

pub text_one : (b : ℕ) (s : List ℕ) → b < 128 → IsText s → IsText (b ∷ s)
text_one b s h x = text_both (b ∷ []) s (text_ascii (b ∷ []) only) x
  where
    only : (k : ℕ) → get_or (b ∷ []) k 0 < 128
    only zero = h
    only (suc k) = omega arith

pub text_number : (n : ℕ) → n < 4294967296 → IsText (decimal n)
text_number n h = text_ascii (decimal n) (IsAscii-decimal n (omega arith))

text_escaped : (s : List ℕ) → AreBytes s → IsText (escaped_all s)
text_escaped s h = record { bytes = _; are = doubled_bytes s h; is = escaped_doubled s }

pub text_cell : {s cell : List ℕ} → AreBytes s → IsSheetCell s cell → IsText cell
text_cell {s} {cell} h (sheet_plain p) = record { bytes = s; are = h; is = refl }
text_cell {s} {cell} h (sheet_quoted {text} n d) =
    text_one 34 (text ++ (34 ∷ [])) (omega arith) (text_both text (34 ∷ []) (subst IsText (doubled_one d) (text_escaped s h)) (text_one 34 [] (omega arith) text_none))

-- The string of a cell, and the parts of its text that are written one after another.
use Rattle.std.proofs.Common.{ℕ, zero, suc, ◌+◌, ◌*◌, ◌/◌, ◌<◌, ◌≤◌, ◌≡◌, ◌⊎◌, inl, inr, ⊎_elim, refl, sym, ap, ap₂, subst, ◌∙◌, Bool, true, false, List, [], ◌∷◌, ◌++◌, length, take, drop, append_assoc, append-nil, length-append, arith}
use Rattle.std.specs.Prelude.{Some, Ok, Err, eqb, slice_index, if◌then◌else◌}
use borrow.Author.Tests.{eqb-true, eqb-false, eq-eqb, ne_eqb}
use Rattle.memchr.specs.Find.{Nowhere, Passes, IsFirstByte, is_byte}
use Rattle.refusal.specs.declared.Refusal.{Refusal}
use Rattle.text.specs.RoundTrip.{AreBytes}
use Rattle.text.specs.Text.{text_of, decoded, encoded_from, counted}
use Rattle.text.proofs.Laws.{byte_low}
use Rattle.text.proofs.Back.{prefixed, encoded_nothing}
use Rattle.text.proofs.Utf8.{le_or_lt}
use Rattle.text.proofs.Theory.{encoded_front}
use Rattle.sheet.specs.Cells.{escaped_all}
use Rattle.sheet.proofs.Escapes.{quote_doubled, text_kept}
use Rattle.sheet_rows.specs.Extent.{quotes}
use Rattle.sheet_rows.proofs.Quotes.{quotes_none, quotes_quote, quotes_other}
use Rattle.sheet_import.specs.Strings.{or_none, bytes_of, undoubled, string_of, IsText, IsCellText}
use Rattle.sheet_import.proofs.Texts.{Avoids, text_avoids, bytes_rest, bytes_cons, bytes_none, decoded_cons, decoded_none}

-- a string whose quotes stand twice
pub doubled : List ℕ → List ℕ
doubled [] = []
doubled (b ∷ s) = if eqb b 34 then 34 ∷ 34 ∷ doubled s else b ∷ doubled s

pub doubled_quote : (s : List ℕ) → doubled (34 ∷ s) ≡ 34 ∷ 34 ∷ doubled s
unfolding doubled
doubled_quote s = refl

pub doubled_other : (b : ℕ) (s : List ℕ) → eqb b 34 ≡ false → doubled (b ∷ s) ≡ b ∷ doubled s
unfolding doubled
doubled_other b s e = ap (λ (c : Bool). if c then 34 ∷ 34 ∷ doubled s else b ∷ doubled s) e

pub doubled_none : doubled [] ≡ []
unfolding doubled
doubled_none = refl

-- what holds of every string: by its quotes and its other bytes
by_quotes : (P : List ℕ → Type 0) → P [] → ((s : List ℕ) → P s → P (34 ∷ s)) → ((b : ℕ) (s : List ℕ) → eqb b 34 ≡ false → P s → P (b ∷ s)) → (s : List ℕ) → P s
by_quotes P none quote other [] = none
by_quotes P none quote other (b ∷ s) = by (eqb b 34) refl (by_quotes P none quote other s)
  where
    by : (c : Bool) → eqb b 34 ≡ c → P s → P (b ∷ s)
    by true e h = subst (λ (d : ℕ). P (d ∷ s)) (sym (eqb-true b 34 e)) (quote s h)
    by false e h = other b s e h

pub low_cons : (c : ℕ) (s : List ℕ) → c < 128 → decoded (c ∷ s) ≡ c ∷ decoded s
low_cons c s h = decoded_cons c s ∙ ap (λ (l : List ℕ). l ++ decoded s) (byte_low h)

-- ---- cells' texts
pub escaped_none : escaped_all [] ≡ []
unfolding escaped_all
escaped_none = refl

escaped_quote : (s : List ℕ) → escaped_all (34 ∷ s) ≡ 34 ∷ 34 ∷ escaped_all s
unfolding escaped_all
escaped_quote s = ap (λ (l : List ℕ). l ++ escaped_all s) (quote_doubled 34 refl)

escaped_other : (b : ℕ) (s : List ℕ) → eqb b 34 ≡ false → escaped_all (b ∷ s) ≡ text_of b ++ escaped_all s
unfolding escaped_all
escaped_other b s e = ap (λ (l : List ℕ). l ++ escaped_all s) (text_kept b (eqb-false b 34 e))

pub escaped_doubled : (s : List ℕ) → escaped_all s ≡ decoded (doubled s)
escaped_doubled = by_quotes (λ s. escaped_all s ≡ decoded (doubled s))
    (escaped_none ∙ sym decoded_none ∙ ap decoded (sym doubled_none))
    (λ s h. escaped_quote s ∙ ap (λ (l : List ℕ). 34 ∷ 34 ∷ l) h ∙ ap (λ (l : List ℕ). 34 ∷ l) (sym (low_cons 34 (doubled s) (omega arith)))
    ∙ sym (low_cons 34 (34 ∷ doubled s) (omega arith)) ∙ ap decoded (sym (doubled_quote s)))
    (λ b s e h. escaped_other b s e ∙ ap (λ (l : List ℕ). text_of b ++ l) h ∙ sym (decoded_cons b (doubled s)) ∙ ap decoded (sym (doubled_other b s e)))

pub doubled_bytes : (s : List ℕ) → AreBytes s → AreBytes (doubled s)
doubled_bytes = by_quotes (λ s. AreBytes s → AreBytes (doubled s))
    (λ h. subst AreBytes (sym doubled_none) bytes_none)
    (λ s f h. subst AreBytes (sym (doubled_quote s)) (bytes_cons 34 (34 ∷ doubled s) (omega arith) (bytes_cons 34 (doubled s) (omega arith) (f (bytes_rest 34 s h)))))
    (λ b s e f h. subst AreBytes (sym (doubled_other b s e)) (bytes_cons b (doubled s) (h 0) (f (bytes_rest b s h))))

pub encoded_decoded : (s : List ℕ) → AreBytes s → encoded_from 0 (decoded s) ≡ Ok s
encoded_decoded s h =
    ap (encoded_from 0) (sym (append-nil (decoded s)))
    ∙ encoded_front s [] 0 h
    ∙ ap (prefixed s) (encoded_nothing (0 + length (decoded s)))
    ∙ ap (λ (l : List ℕ). Ok l) (append-nil s)

pub bytes_decoded : (s : List ℕ) → AreBytes s → bytes_of (decoded s) ≡ s
unfolding bytes_of
bytes_decoded s h = ap or_none (encoded_decoded s h)

pub bytes_escaped : (s : List ℕ) → AreBytes s → bytes_of (escaped_all s) ≡ doubled s
bytes_escaped s h = ap bytes_of (escaped_doubled s) ∙ bytes_decoded (doubled s) (doubled_bytes s h)

undoubled_other : (b : ℕ) (s : List ℕ) → eqb b 34 ≡ false → undoubled (b ∷ s) ≡ b ∷ undoubled s
unfolding undoubled
undoubled_other b [] e = refl
undoubled_other b (c ∷ s) e = ap (λ (d : Bool). if d then b ∷ undoubled s else b ∷ undoubled (c ∷ s)) e

undoubled_quote : (s : List ℕ) → undoubled (34 ∷ 34 ∷ s) ≡ 34 ∷ undoubled s
unfolding undoubled
undoubled_quote s = refl

undoubled_none : undoubled [] ≡ []
unfolding undoubled
undoubled_none = refl

undoubled_is : (s : List ℕ) → undoubled (doubled s) ≡ s
undoubled_is = by_quotes (λ s. undoubled (doubled s) ≡ s)
    (ap undoubled doubled_none ∙ undoubled_none)
    (λ s h. ap undoubled (doubled_quote s) ∙ undoubled_quote (doubled s) ∙ ap (λ (l : List ℕ). 34 ∷ l) h)
    (λ b s e h. ap undoubled (doubled_other b s e) ∙ undoubled_other b (doubled s) e ∙ ap (λ (l : List ℕ). b ∷ l) h)

-- the string of a cell's text is that of which it is the text
pub string_escaped : (s : List ℕ) → AreBytes s → string_of (escaped_all s) ≡ s
unfolding string_of
string_escaped s h = ap undoubled (bytes_escaped s h) ∙ undoubled_is s

pub string_is : {t : List ℕ} (c : IsCellText t) → string_of t ≡ c.string
string_is c = ap string_of c.is ∙ string_escaped c.string c.are

-- ---- how many quotes
quotes_past : (u s : List ℕ) → Avoids 34 u → quotes (u ++ s) ≡ quotes s
quotes_past [] s a = refl
quotes_past (b ∷ u) s a = quotes_other b (u ++ s) (ne_eqb b 34 a.0) ∙ quotes_past u s a.1

record Pairs (s : List ℕ) : Type 0 where
  pairs : ℕ
  quotes_are : quotes (escaped_all s) ≡ 2 * pairs
  long : length (doubled s) ≡ length s + pairs

pairs : (s : List ℕ) → AreBytes s → Pairs s
pairs = by_quotes (λ s. AreBytes s → Pairs s)
    (λ h. record { pairs = 0; quotes_are = ap quotes escaped_none ∙ quotes_none; long = ap length doubled_none })
    (λ s f h.
    let p = f (bytes_rest 34 s h) in
    record {
      pairs = p.pairs + 1;
      quotes_are =
          let e = ap quotes (escaped_quote s) ∙ quotes_quote 34 (34 ∷ escaped_all s) refl in
          omega (arith, e, quotes_quote 34 (escaped_all s) refl, p.quotes_are);
      long = omega (arith, ap length (doubled_quote s), p.long);
    })
    (λ b s e f h.
    let p = f (bytes_rest b s h) in
    record {
      pairs = p.pairs;
      quotes_are = ap quotes (escaped_other b s e) ∙ quotes_past (text_of b) (escaped_all s) (text_avoids 34 b (omega arith) (h 0) (eqb-false b 34 e)) ∙ p.quotes_are;
      long = omega (arith, ap length (doubled_other b s e), p.long);
    })

-- the string's length is that of the text's bytes less half of the quotes
pub record Measured (t : List ℕ) : Type 0 where
  pub bytes : List ℕ
  pub are : AreBytes bytes
  pub text : t ≡ decoded bytes
  pub is : encoded_from 0 t ≡ Ok bytes
  pub long : length (string_of t) + quotes t / 2 ≡ length bytes

pub measured : (t : List ℕ) → IsCellText t → Measured t
measured t c =
    let p = pairs c.string c.are in
    let half : quotes t ≡ 2 * p.pairs = ap quotes c.is ∙ p.quotes_are in
    record {
      bytes = doubled c.string;
      are = doubled_bytes c.string c.are;
      text = c.is ∙ escaped_doubled c.string;
      is = ap (encoded_from 0) (c.is ∙ escaped_doubled c.string) ∙ encoded_decoded (doubled c.string) (doubled_bytes c.string c.are);
      long = omega (arith, half, p.long, ap length (string_is c));
    }

pub never_refused : (t : List ℕ) → IsCellText t → (why : Refusal) → Err why ≡ counted 0 (encoded_from 0 t) → ⊥
never_refused t c why e =
    let m = measured t c in
    let f : Err why ≡ Ok (0 + length m.bytes) = e ∙ ap (counted 0) m.is in
    cc

-- ---- the parts between quotes
record Cut (s : List ℕ) : Type 0 where
  front : List ℕ
  rest : List ℕ
  is : s ≡ front ++ (34 ∷ rest)
  plain : Avoids 34 front

cut : (s : List ℕ) → Avoids 34 s ⊎ Cut s
cut = by_quotes (λ s. Avoids 34 s ⊎ Cut s)
    (inl tt)
    (λ s h. inr (record { front = []; rest = s; is = refl; plain = tt }))
    (λ b s e h. ⊎_elim
    (λ a. inl (eqb-false b 34 e, a))
    (λ c. inr (record { front = b ∷ c.front; rest = c.rest; is = ap (λ (l : List ℕ). b ∷ l) c.is; plain = (eqb-false b 34 e, c.plain) })) h)

pub escaped_plain : (s r : List ℕ) → Avoids 34 s → escaped_all (s ++ r) ≡ decoded s ++ escaped_all r
escaped_plain [] r a = ap (λ (l : List ℕ). l ++ escaped_all r) (sym decoded_none)
escaped_plain (b ∷ s) r a =
    escaped_other b (s ++ r) (ne_eqb b 34 a.0)
    ∙ ap (λ (l : List ℕ). text_of b ++ l) (escaped_plain s r a.1)
    ∙ sym (append_assoc (text_of b) (decoded s) (escaped_all r))
    ∙ ap (λ (l : List ℕ). l ++ escaped_all r) (sym (decoded_cons b s))

avoids_append : (u v : List ℕ) → Avoids 34 u → Avoids 34 v → Avoids 34 (u ++ v)
avoids_append [] v a b = b
avoids_append (c ∷ u) v a b = (a.0, avoids_append u v a.1 b)

decoded_avoids : (s : List ℕ) → AreBytes s → Avoids 34 s → Avoids 34 (decoded s)
decoded_avoids [] h a = subst (Avoids 34) (sym decoded_none) tt
decoded_avoids (b ∷ s) h a =
    subst (Avoids 34) (sym (decoded_cons b s)) (avoids_append (text_of b) (decoded s) (text_avoids 34 b (omega arith) (h 0) a.0) (decoded_avoids s (bytes_rest b s h) a.1))

pub decoded_append : (s t : List ℕ) → decoded (s ++ t) ≡ decoded s ++ decoded t
decoded_append [] t = ap (λ (l : List ℕ). l ++ decoded t) (sym decoded_none)
decoded_append (b ∷ s) t =
    decoded_cons b (s ++ t) ∙ ap (λ (l : List ℕ). text_of b ++ l) (decoded_append s t)
    ∙ sym (append_assoc (text_of b) (decoded s) (decoded t)) ∙ ap (λ (l : List ℕ). l ++ decoded t) (sym (decoded_cons b s))

bytes_left : (s t : List ℕ) → AreBytes (s ++ t) → AreBytes s
bytes_left [] t h = bytes_none
bytes_left (b ∷ s) t h = bytes_cons b s (h 0) (bytes_left s t (bytes_rest b (s ++ t) h))

bytes_right : (s t : List ℕ) → AreBytes (s ++ t) → AreBytes t
bytes_right [] t h = h
bytes_right (b ∷ s) t h = bytes_right s t (bytes_rest b (s ++ t) h)

pub bytes_both : (s t : List ℕ) → AreBytes s → AreBytes t → AreBytes (s ++ t)
bytes_both [] t h k = k
bytes_both (b ∷ s) t h k = bytes_cons b (s ++ t) (h 0) (bytes_both s t (bytes_rest b s h) k)

-- where the first quote stands
avoids_at : (u : List ℕ) (v : List ℕ) (k : ℕ) → Avoids 34 u → k < length u → slice_index (u ++ v) k ≡ 34 → ⊥
avoids_at [] v k a h e = absurd (omega arith)
avoids_at (b ∷ u) v zero a h e = a.0 e
avoids_at (b ∷ u) v (suc k) a h e = avoids_at u v k a.1 (omega (arith, h)) e

at_front : (u v : List ℕ) → slice_index (u ++ (34 ∷ v)) (length u) ≡ 34
at_front [] v = refl
at_front (b ∷ u) v = at_front u v

first_place : (u v : List ℕ) (q : ℕ) → Avoids 34 u → IsFirstByte (is_byte 34) (u ++ (34 ∷ v)) (Some q) → q ≡ length u
first_place u v q a f = ⊎_elim (λ h. ⊎_elim (λ k. omega arith) (λ k. absurd (f.0.before (length u) (omega arith) k (eq-eqb (slice_index (u ++ (34 ∷ v)) (length u)) 34 (at_front u v)))) (le_or_lt q (length u)))
    (λ h. absurd (avoids_at u (34 ∷ v) q a h (eqb-true (slice_index (u ++ (34 ∷ v)) q) 34 f.1))) (le_or_lt (length u) q)

no_place : (u v : List ℕ) → Nowhere (Passes (is_byte 34) (u ++ (34 ∷ v))) 0 (length (u ++ (34 ∷ v))) → ⊥
no_place u v f = f (length u) (omega arith) (omega (arith, length-append u (34 ∷ v))) (eq-eqb (slice_index (u ++ (34 ∷ v)) (length u)) 34 (at_front u v))

take_front : (u v : List ℕ) (n : ℕ) → n ≡ length u → take n (u ++ v) ≡ u
take_front u v n e = ap (λ (k : ℕ). take k (u ++ v)) e ∙ exact u
  where
    exact : (u : List ℕ) → take (length u) (u ++ v) ≡ u
    exact [] = refl
    exact (b ∷ u) = ap (λ (l : List ℕ). b ∷ l) (exact u)

drop_front : (u v : List ℕ) (n : ℕ) → n ≡ length u → drop n (u ++ v) ≡ v
drop_front u v n e = ap (λ (k : ℕ). drop k (u ++ v)) e ∙ exact u
  where
    exact : (u : List ℕ) → drop (length u) (u ++ v) ≡ v
    exact [] = refl
    exact (b ∷ u) = exact u

-- a cell's text up to its first quote, and what stands behind the second
pub record Quoted (t : List ℕ) (q : ℕ) : Type 0 where
  pub inside : q + 2 ≤ length t
  pub text : IsText (take (q + 1) t)
  pub rest : IsCellText (drop (q + 2) t)
  pub is : string_of t ≡ bytes_of (take (q + 1) t) ++ string_of (drop (q + 2) t)

-- one that has none
pub record Plain (t : List ℕ) : Type 0 where
  pub text : IsText t
  pub is : string_of t ≡ bytes_of t

quoted_by : (t : List ℕ) (q : ℕ) (c : IsCellText t) (p : Cut c.string) → IsFirstByte (is_byte 34) t (Some q) → Quoted t q
quoted_by t q c p f =
    let one : List ℕ = p.front ++ (34 ∷ []) in
    let both : AreBytes (p.front ++ (34 ∷ p.rest)) = subst AreBytes p.is c.are in
    let front_bytes = bytes_left p.front (34 ∷ p.rest) both in
    let rest_bytes : AreBytes p.rest = bytes_rest 34 p.rest (bytes_right p.front (34 ∷ p.rest) both) in
    let one_bytes : AreBytes one = bytes_both p.front (34 ∷ []) front_bytes (bytes_cons 34 [] (omega arith) bytes_none) in
    let whole : t ≡ decoded p.front ++ (34 ∷ 34 ∷ escaped_all p.rest) =
    c.is ∙ ap escaped_all p.is ∙ escaped_plain p.front (34 ∷ p.rest) p.plain ∙ ap (λ (l : List ℕ). decoded p.front ++ l) (escaped_quote p.rest) in
    let place : q ≡ length (decoded p.front) = first_place (decoded p.front) (34 ∷ escaped_all p.rest) q (decoded_avoids p.front front_bytes p.plain) (subst (λ (l : List ℕ). IsFirstByte (is_byte 34) l (Some q)) whole f) in
    let first : decoded one ≡ decoded p.front ++ (34 ∷ []) =
    decoded_append p.front (34 ∷ []) ∙ ap (λ (l : List ℕ). decoded p.front ++ l) (low_cons 34 [] (omega arith) ∙ ap (λ (l : List ℕ). 34 ∷ l) decoded_none) in
    let one_long : q + 1 ≡ length (decoded one) = omega (arith, place, ap length first, length-append (decoded p.front) (34 ∷ [])) in
    let two_long : q + 2 ≡ length (decoded one ++ (34 ∷ [])) = omega (arith, one_long, length-append (decoded one) (34 ∷ [])) in
    let by_one : t ≡ decoded one ++ (34 ∷ escaped_all p.rest) =
    whole ∙ sym (append_assoc (decoded p.front) (34 ∷ []) (34 ∷ escaped_all p.rest)) ∙ ap (λ (l : List ℕ). l ++ (34 ∷ escaped_all p.rest)) (sym first) in
    let by_two : t ≡ (decoded one ++ (34 ∷ [])) ++ escaped_all p.rest = by_one ∙ sym (append_assoc (decoded one) (34 ∷ []) (escaped_all p.rest)) in
    let taken : take (q + 1) t ≡ decoded one = ap (take (q + 1)) by_one ∙ take_front (decoded one) (34 ∷ escaped_all p.rest) (q + 1) one_long in
    let dropped : drop (q + 2) t ≡ escaped_all p.rest = ap (drop (q + 2)) by_two ∙ drop_front (decoded one ++ (34 ∷ [])) (escaped_all p.rest) (q + 2) two_long in
    record {
      inside = omega (arith, two_long, ap length by_two, length-append (decoded one ++ (34 ∷ [])) (escaped_all p.rest));
      text = record { bytes = one; are = one_bytes; is = taken };
      rest = record { string = p.rest; are = rest_bytes; is = dropped };
      is = string_is c ∙ p.is ∙ sym (append_assoc p.front (34 ∷ []) p.rest)
          ∙ ap₂ (λ (x y : List ℕ). x ++ y) (sym (ap bytes_of taken ∙ bytes_decoded one one_bytes)) (sym (ap string_of dropped ∙ string_escaped p.rest rest_bytes));
    }

plain_whole : (t : List ℕ) (c : IsCellText t) → Avoids 34 c.string → t ≡ decoded c.string
plain_whole t c a =
    c.is ∙ ap escaped_all (sym (append-nil c.string)) ∙ escaped_plain c.string [] a
    ∙ ap (λ (l : List ℕ). decoded c.string ++ l) escaped_none ∙ append-nil (decoded c.string)

plain_by : (t : List ℕ) (c : IsCellText t) → Avoids 34 c.string → Plain t
plain_by t c a =
    let whole = plain_whole t c a in
    record {
      text = record { bytes = c.string; are = c.are; is = whole };
      is = string_is c ∙ sym (ap bytes_of whole ∙ bytes_decoded c.string c.are);
    }

quote_in : (t : List ℕ) (c : IsCellText t) (p : Cut c.string) → t ≡ decoded p.front ++ (34 ∷ 34 ∷ escaped_all p.rest)
quote_in t c p = c.is ∙ ap escaped_all p.is ∙ escaped_plain p.front (34 ∷ p.rest) p.plain ∙ ap (λ (l : List ℕ). decoded p.front ++ l) (escaped_quote p.rest)

pub quote_found : (t : List ℕ) (q : ℕ) → IsCellText t → IsFirstByte (is_byte 34) t (Some q) → Quoted t q
quote_found t q c f = ⊎_elim
    (λ a. absurd (avoids_at t [] q (subst (Avoids 34) (sym (plain_whole t c a)) (decoded_avoids c.string c.are a)) f.0.high
    (ap (λ (l : List ℕ). slice_index l q) (append-nil t) ∙ eqb-true (slice_index t q) 34 f.1)))
    (λ p. quoted_by t q c p f) (cut c.string)

pub no_quote : (t : List ℕ) → IsCellText t → Nowhere (Passes (is_byte 34) t) 0 (length t) → Plain t
no_quote t c f = ⊎_elim
    (λ a. plain_by t c a)
    (λ p. absurd (no_place (decoded p.front) (34 ∷ escaped_all p.rest) (subst (λ (l : List ℕ). Nowhere (Passes (is_byte 34) l) 0 (length l)) (quote_in t c p) f)))
    (cut c.string)

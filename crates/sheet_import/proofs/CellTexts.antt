-- The texts of a row's cells, in a text that has no fault.
use Rattle.std.proofs.Common.{ℕ, ◌<◌, ◌≡◌, refl, sym, ap, ap₂, subst, ◌∙◌, Bool, true, false, List, [], ◌∷◌, ◌++◌, append-nil, length, arith}
use Rattle.std.specs.Prelude.{Some, eqb}
use Rattle.std.specs.List.{All}
use Rattle.std.specs.Borrow.{Bor}
use Rattle.std.proofs.lemmas.List.Elements.{All-head, All-rest}
use borrow.Author.Tests.{eqb-true, eqb-false}
use Rattle.text.specs.RoundTrip.{AreBytes}
use Rattle.text.specs.Text.{code_point, text_of, decoded}
use Rattle.text.proofs.Utf8.{utf8_long}
use Rattle.sheet.specs.CellsMeant.{IsPlain}
use Rattle.sheet.specs.Cells.{escaped_all}
use Rattle.sheet_rows.specs.declared.cells.Cells.{Cells}
use Rattle.sheet_rows.specs.Cells.{cells_of}
use Rattle.sheet_rows.specs.Meant.{IsPaired, none, quotes as pair, other, IsCell, plain, quoted, IsEnd, crlf, lf, last, IsRow, ended, comma, texts_of}
use Rattle.sheet_rows.proofs.RowsRead.{row_is}
use Rattle.sheet_import.specs.Strings.{IsText, IsCellText, AreStrings}
use Rattle.sheet_import.proofs.Texts.{Avoids, text_avoids, text_before, text_behind, bytes_rest, bytes_cons, bytes_none, decoded_cons, decoded_none}
use Rattle.sheet_import.proofs.StringsRead.{doubled, doubled_none, doubled_quote, doubled_other, escaped_doubled, escaped_plain, escaped_none, low_cons}

-- ---- bytes in which quotes stand by twos
paired_other : {t : List ℕ} (b : ℕ) (r : List ℕ) → IsPaired t → t ≡ b ∷ r → (b ≡ 34 → ⊥) → IsPaired r
paired_other b r none e n = cc
paired_other b r (pair p) e n = let head : b ≡ 34 = cc in absurd (n head)
paired_other b r (other {s = s} d p) e n = let tail : s ≡ r = cc in subst IsPaired tail p

paired_two : {t : List ℕ} (r : List ℕ) → IsPaired t → t ≡ 34 ∷ r → (q : List ℕ) × (r ≡ 34 ∷ q) × IsPaired q
paired_two r none e = cc
paired_two r (pair {s} p) e = (s, cc, p)
paired_two r (other {b = b} d p) e = let head : b ≡ 34 = cc in absurd (d head)

paired_past : (u r : List ℕ) → Avoids 34 u → IsPaired (u ++ r) → IsPaired r
paired_past [] r a p = p
paired_past (b ∷ u) r a p = paired_past u r a.1 (paired_other b (u ++ r) p refl a.0)

-- a string that they are, each quote once
record Halved (s : List ℕ) : Type 0 where
  string : List ℕ
  are : AreBytes string
  is : s ≡ doubled string

halved_other : (b : ℕ) (s : List ℕ) → b < 256 → eqb b 34 ≡ false → Halved s → Halved (b ∷ s)
halved_other b s h e t = record { string = b ∷ t.string; are = bytes_cons b t.string h t.are; is = ap (λ (l : List ℕ). b ∷ l) t.is ∙ sym (doubled_other b t.string e) }

-- the text of a byte is not empty
text_some : (c : ℕ) → text_of c ≡ [] → ⊥
text_some c e = omega (arith, ap length e, (utf8_long (code_point c)).0)

-- what a text that begins with a quote is of
head_quote : (c : ℕ) (s q : List ℕ) → c < 256 → decoded (c ∷ s) ≡ 34 ∷ q → c ≡ 34
head_quote c s q h e = by (eqb c 34) refl
  where
    none_begins : (u r : List ℕ) → Avoids 34 u → u ++ r ≡ 34 ∷ q → (u ≡ [] → ⊥) → ⊥
    none_begins [] r a f n = n refl
    none_begins (b ∷ u) r a f n = let head : b ≡ 34 = cc in a.0 head

    by : (b : Bool) → eqb c 34 ≡ b → c ≡ 34
    by true f = eqb-true c 34 f
    by false f = absurd (none_begins (text_of c) (decoded s) (text_avoids 34 c (omega arith) h (eqb-false c 34 f)) (sym (decoded_cons c s) ∙ e) (text_some c))

halved_quote : (b : ℕ) (s : List ℕ) → eqb b 34 ≡ true → Halved s → Halved (b ∷ 34 ∷ s)
halved_quote b s e t = record {
  string = 34 ∷ t.string;
  are = bytes_cons 34 t.string (omega arith) t.are;
  is = ap₂ (λ (x : ℕ) (l : List ℕ). x ∷ 34 ∷ l) (eqb-true b 34 e) t.is ∙ sym (doubled_quote t.string);
}

halved : (s : List ℕ) → AreBytes s → IsPaired (decoded s) → Halved s
halved [] h p = record { string = []; are = bytes_none; is = sym doubled_none }
halved (b ∷ []) h p = by (eqb b 34) refl
  where
    by : (q : Bool) → eqb b 34 ≡ q → Halved (b ∷ [])
    by true e =
        let one : decoded (b ∷ []) ≡ 34 ∷ [] = ap (λ (x : ℕ). decoded (x ∷ [])) (eqb-true b 34 e) ∙ low_cons 34 [] (omega arith) ∙ ap (λ (l : List ℕ). 34 ∷ l) decoded_none in
        let two = paired_two [] p one in
        cc (two.1)
    by false e = halved_other b [] (h 0) e (record { string = []; are = bytes_none; is = sym doubled_none })
halved (b ∷ c ∷ s) h p = by (eqb b 34) refl (halved s (bytes_rest c s (bytes_rest b (c ∷ s) h))) (halved (c ∷ s) (bytes_rest b (c ∷ s) h))
  where
    by : (q : Bool) → eqb b 34 ≡ q → (IsPaired (decoded s) → Halved s) → (IsPaired (decoded (c ∷ s)) → Halved (c ∷ s)) → Halved (b ∷ c ∷ s)
    by true e two one =
        let whole : decoded (b ∷ c ∷ s) ≡ 34 ∷ decoded (c ∷ s) = ap (λ (x : ℕ). decoded (x ∷ c ∷ s)) (eqb-true b 34 e) ∙ low_cons 34 (c ∷ s) (omega arith) in
        let q = paired_two (decoded (c ∷ s)) p whole in
        let second : c ≡ 34 = head_quote c s q.0 (h 1) q.1 in
        let behind : decoded (c ∷ s) ≡ 34 ∷ decoded s = ap (λ (x : ℕ). decoded (x ∷ s)) second ∙ low_cons 34 s (omega arith) in
        let rest : q.0 ≡ decoded s = let f = sym q.1 ∙ behind in cc in
        subst (λ (x : ℕ). Halved (b ∷ x ∷ s)) (sym second) (halved_quote b s e (two (subst IsPaired rest q.2)))
    by false e two one = halved_other b (c ∷ s) (h 0) e (one (paired_past (text_of b) (decoded (c ∷ s)) (text_avoids 34 b (omega arith) (h 0) (eqb-false b 34 e)) (subst IsPaired (decoded_cons b (c ∷ s)) p)))

-- ---- a cell
plain_avoids : (t : List ℕ) → All IsPlain t → Avoids 34 t
plain_avoids [] h = tt
plain_avoids (b ∷ t) h = let p = All-head IsPlain b t h in (p.quote, plain_avoids t (All-rest IsPlain _ _ _ refl h))

avoids_right : (u r : List ℕ) → Avoids 34 (u ++ r) → Avoids 34 r
avoids_right [] r a = a
avoids_right (b ∷ u) r a = avoids_right u r a.1

encoded_avoids : (s : List ℕ) → AreBytes s → Avoids 34 (decoded s) → Avoids 34 s
encoded_avoids [] h a = tt
encoded_avoids (b ∷ s) h a = (first, encoded_avoids s (bytes_rest b s h) (avoids_right (text_of b) (decoded s) (subst (Avoids 34) (decoded_cons b s) a)))
  where
    first : b ≡ 34 → ⊥
    first e =
        let whole : decoded (b ∷ s) ≡ 34 ∷ decoded s = ap (λ (x : ℕ). decoded (x ∷ s)) e ∙ low_cons 34 s (omega arith) in
        let own : Avoids 34 (34 ∷ decoded s) = subst (Avoids 34) whole a in
        own.0 refl

plain_text : (t : List ℕ) → All IsPlain t → IsText t → IsCellText t
plain_text t p x =
    let a = encoded_avoids x.bytes x.are (subst (Avoids 34) x.is (plain_avoids t p)) in
    record {
      string = x.bytes;
      are = x.are;
      is = x.is ∙ sym (append-nil (decoded x.bytes)) ∙ ap (λ (l : List ℕ). decoded x.bytes ++ l) (sym escaped_none) ∙ sym (escaped_plain x.bytes [] a) ∙ ap escaped_all (append-nil x.bytes);
    }

quoted_text : (t : List ℕ) → IsPaired t → IsText t → IsCellText t
quoted_text t p x =
    let h = halved x.bytes x.are (subst IsPaired x.is p) in
    record { string = h.string; are = h.are; is = x.is ∙ ap decoded h.is ∙ sym (escaped_doubled h.string) }

cell_text : {t cell : List ℕ} → IsCell t cell → IsText cell → IsCellText t
cell_text {t} (plain p) x = plain_text t p x
cell_text {t} (quoted p) x = quoted_text t p (text_before t [] 34 (omega arith) (text_behind [] (t ++ (34 ∷ [])) 34 (omega arith) x))

-- ---- a row
abbrev pub AllTexts : List (List ℕ) → Type 0
AllTexts [] = Unit {0}
AllTexts (t ∷ ts) = IsCellText t × AllTexts ts

pub record Told (texts : List (List ℕ)) (rest : List ℕ) : Type 0 where
  pub texts_are : AllTexts texts
  pub rest_is : IsText rest

end_text : {end rest : List ℕ} (cell : List ℕ) → IsEnd end rest → IsText (cell ++ end) → IsText cell × IsText rest
end_text cell (crlf {rest}) x =
    (text_before cell (10 ∷ rest) 13 (omega arith) x, text_behind [] rest 10 (omega arith) (text_behind cell (10 ∷ rest) 13 (omega arith) x))
end_text cell (lf {rest}) x = (text_before cell rest 10 (omega arith) x, text_behind cell rest 10 (omega arith) x)
end_text cell last x = (subst IsText (append-nil cell) x, record { bytes = []; are = bytes_none; is = sym decoded_none })

pub row_text : {texts : List (List ℕ)} {l rest : List ℕ} → IsRow texts l rest → IsText l → Told texts rest
row_text (ended {text} {cell} {end} {rest} c e) x = let p = end_text cell e x in record { texts_are = (cell_text c p.0, tt); rest_is = p.1 }
row_text (comma {text} {cell} {more} {rest} {texts} c r) x =
    let p = row_text r (text_behind cell more 44 (omega arith) x) in
    record { texts_are = (cell_text c (text_before cell more 44 (omega arith) x), p.texts_are); rest_is = p.rest_is }

pub line_texts : (c : Cells) {s rest : List ℕ} → IsRow (texts_of c) s rest → IsText s → AreStrings c.strings × IsText rest
line_texts c r x =
    let p = row_text r x in
    let six = p.texts_are.1.1.1.1.1.1 in
    (record { name = six.0; type_name = six.1.0; comment = six.1.1.0 }, p.rest_is)

pub record RowTexts (c : Cells) : Type 0 where
  pub strings : AreStrings c.strings
  pub rest : IsText c.strings.rest.now

pub row_texts : (s : Bor (List ℕ)) (c : Cells) → cells_of s ≡ Some c → IsText s.now → RowTexts c
row_texts s c h x = let p = line_texts c (row_is s c h) x in record { strings = p.0; rest = p.1 }

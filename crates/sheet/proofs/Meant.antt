-- A cell and a row by the bytes, and which entries a sheet holds.
use Rattle.std.proofs.Common.{ℕ, zero, suc, ◌+◌, ◌-◌, ◌<◌, ◌≤◌, ◌≡◌, refl, sym, ap, ap₂, subst, ◌∙◌, Bool, true, false, List, [], ◌∷◌, ◌++◌, length, take, drop, get_or, length-drop, append_assoc, append-nil, arith, Result, Ok, Err, Bor}
use Rattle.std.specs.Prelude.{eqb, ◌||◌, is_ok, codes, decimal, Option, None, if◌then◌else◌}
use Rattle.std.specs.List.{All, flat_map, list_any}
use Rattle.std.proofs.lemmas.Grind.{flat_map-append}
use Rattle.std.proofs.lemmas.List.Elements.{All-nil, All-cons, All-head, All-rest}
use borrow.Author.Tests.{eqb-true, eqb-false, ne_eqb}
use Rattle.le.specs.Le.{le2, has, part}
use Rattle.part.specs.Slice as slice
use Rattle.refusal.specs.declared.Mode.TheVariants.{Present}
use Rattle.refusal.specs.declared.Refusal.{Refusal}
use Rattle.refusal.specs.declared.Refusal.TheVariants.{NotInSheet, EndByte}
use Rattle.refusal.specs.EndBytes.{ended}
use Rattle.layout.specs.Layout.{guid_of, string_ends}
use Rattle.text.specs.Text.{decoded, text_of}
use Rattle.symbol.specs.declared.AdsSymbolInfo.{AdsSymbolInfo}
use Rattle.symbol.specs.Symbol.{symbol_of, with_strings, attributes_of, extended_of, refactor_infos_of}
use Rattle.symbol.proofs.Laws.{accepted_is, accepted_room}
use Rattle.symbol.proofs.Lies.{symbols_inside}
use Rattle.sheet.specs.Cells.{Row, is_special, escaped, escaped_all, cell, numbers_text, strings_text, row_text, header, sheet_text}
use Rattle.sheet.specs.Export.{row_of, is_whole, admitted}
use Rattle.sheet.specs.CellsMeant.{IsPlain, Doubled, none, quote, other, IsCell, plain, quoted, IsRow, CellsMeant}
use Rattle.sheet.specs.ExportMeant.{IsWhole, IsAdmitted, guid, attributes, extended_flags, held, not_whole, AdmittedMeant}
use Rattle.sheet.proofs.Escapes.{quote_doubled, text_kept, cell_plain, cell_quoted}

pub doubled_is : (s : List ℕ) → Doubled s (escaped_all s)
unfolding escaped_all escaped
doubled_is [] = none
doubled_is (b ∷ s) = by (eqb b 34) refl (doubled_is s)
  where
    by : (q : Bool) → eqb b 34 ≡ q → Doubled s (escaped_all s) → Doubled (b ∷ s) ((if q then 34 ∷ 34 ∷ [] else text_of b) ++ escaped_all s)
    by true e d = subst (λ (c : ℕ). Doubled (c ∷ s) (34 ∷ 34 ∷ escaped_all s)) (sym (eqb-true b 34 e)) (quote d)
    by false e d = other (eqb-false b 34 e) d

pub doubled_one : {s text : List ℕ} → Doubled s text → escaped_all s ≡ text
unfolding escaped_all
doubled_one none = refl
doubled_one (quote d) = ap₂ (λ (x y : List ℕ). x ++ y) (quote_doubled 34 refl) (doubled_one d)
doubled_one (other {b} h d) = ap₂ (λ (x y : List ℕ). x ++ y) (text_kept b h) (doubled_one d)

never : true ≡ false → ⊥
never h = cc

pub special_plain : (b : ℕ) → is_special b ≡ false → IsPlain b
special_plain b e = record {
  comma = λ h. never (sym (ap is_special h) ∙ e);
  quote = λ h. never (sym (ap is_special h) ∙ e);
  return = λ h. never (sym (ap is_special h) ∙ e);
  feed = λ h. never (sym (ap is_special h) ∙ e);
}

pub plain_special : (b : ℕ) → IsPlain b → is_special b ≡ false
plain_special b h = simp (ne_eqb b 44 h.comma, ne_eqb b 34 h.quote, ne_eqb b 13 h.return, ne_eqb b 10 h.feed)

pub plain_all : (s : List ℕ) → list_any is_special s ≡ false → All IsPlain s
plain_all [] e = All-nil IsPlain
plain_all (b ∷ s) e = by (is_special b) refl e (plain_all s)
  where
    by : (q : Bool) → is_special b ≡ q → (q || list_any is_special s) ≡ false → (list_any is_special s ≡ false → All IsPlain s) → All IsPlain (b ∷ s)
    by true f g more = absurd (never g)
    by false f g more = All-cons IsPlain b s (special_plain b f) (more g)

plain_none : (s : List ℕ) → All IsPlain s → list_any is_special s ≡ false
plain_none [] h = refl
plain_none (b ∷ s) h = ap₂ (λ (x y : Bool). x || y) (plain_special b (All-head IsPlain b s h)) (plain_none s (All-rest IsPlain _ _ _ refl h))

plain_text : (s : List ℕ) → All IsPlain s → escaped_all s ≡ decoded s
unfolding escaped_all decoded
plain_text [] h = refl
plain_text (b ∷ s) h = let p = All-head IsPlain b s h in ap₂ (λ (x y : List ℕ). x ++ y) (text_kept b p.quote) (plain_text s (All-rest IsPlain _ _ _ refl h))

cell_by : (s : List ℕ) (b : Bool) → list_any is_special s ≡ b → IsCell s (cell s)
cell_by s true e = subst (IsCell s) (sym (cell_quoted s e)) (quoted (λ all. never (sym e ∙ plain_none s all)) (doubled_is s))
cell_by s false e = subst (IsCell s) (sym (cell_plain s e ∙ plain_text s (plain_all s e))) (plain (plain_all s e))

cell_is : (s : List ℕ) → IsCell s (cell s)
cell_is s = cell_by s (list_any is_special s) refl

special_by : (s : List ℕ) → (All IsPlain s → ⊥) → (b : Bool) → list_any is_special s ≡ b → list_any is_special s ≡ true
special_by s special true e = e
special_by s special false e = absurd (special (plain_all s e))

cell_one : (s text : List ℕ) → IsCell s text → cell s ≡ text
cell_one s text (plain all) = cell_plain s (plain_none s all) ∙ plain_text s all
cell_one s text (quoted special d) = cell_quoted s (special_by s special (list_any is_special s) refl) ∙ ap (λ (t : List ℕ). 34 ∷ (t ++ (34 ∷ []))) (doubled_one d)

-- an accepted entry's row
row_with : (e : Bor (List ℕ)) → IsRow e.now (row_text (row_of (with_strings e (le2 e.now 24) (le2 e.now 26) (le2 e.now 28))))
unfolding with_strings row_text numbers_text strings_text part
row_with e = record {
  name = cell (take (le2 e.now 24) (drop 30 e.now));
  type_name = cell (take (le2 e.now 26) (drop (31 + le2 e.now 24) e.now));
  comment = cell (take (le2 e.now 28) (drop (32 + le2 e.now 24 + le2 e.now 26) e.now));
  name_cell = cell_is _;
  type_cell = cell_is _;
  comment_cell = cell_is _;
  is = refl;
}

pub row_is : (e : Bor (List ℕ)) (r : AdsSymbolInfo) → symbol_of Present e ≡ Ok r → IsRow e.now (row_text (row_of r))
row_is e r h = subst (λ q. IsRow e.now (row_text (row_of q))) (accepted_is Present e r h) (row_with e)

sheet_more : (rows : List Row) (row : Row) → sheet_text (rows ++ (row ∷ [])) ≡ sheet_text rows ++ row_text row
unfolding sheet_text
sheet_more rows row = ap (λ (l : List ℕ). header ++ l) (flat_map-append row_text rows (row ∷ []) ∙ ap (λ (l : List ℕ). flat_map row_text rows ++ l) (append-nil (row_text row))) ∙ sym (append_assoc header (flat_map row_text rows) (row_text row))

sheet_none : sheet_text [] ≡ codes "group,offset,size,type id,flags,high,name,type,comment\r\n"
unfolding sheet_text header
sheet_none = refl

pub cells_meant : CellsMeant
cells_meant = record {
  cells = λ s text. (λ e. subst (IsCell s) e (cell_is s), cell_one s text);
  rows = row_is;
  header = sheet_none;
  more = sheet_more;
}

-- without flagged sections all that follows the strings is unread
unread_with : (e : Bor (List ℕ)) (n t k : ℕ) → has (le2 e.now 20) 0x0008 ≡ false → has (le2 e.now 20) 0x1000 ≡ false → has (le2 e.now 20) 0x8000 ≡ false
    → (with_strings e n t k).unread ≡ slice.after e (33 + n + t + k)
unfolding with_strings guid_of attributes_of extended_of refactor_infos_of
unread_with e n t k f g h = simp (f, g, h)

pub unread_is : (e : Bor (List ℕ)) (r : AdsSymbolInfo) → symbol_of Present e ≡ Ok r
    → has (le2 e.now 20) 0x0008 ≡ false → has (le2 e.now 20) 0x1000 ≡ false → has (le2 e.now 20) 0x8000 ≡ false
    → length r.unread.now + (33 + le2 e.now 24 + le2 e.now 26 + le2 e.now 28) ≡ length e.now
unread_is e r a f g h =
    let is = ap (λ (q : AdsSymbolInfo). length q.unread.now) (accepted_is Present e r a) in
    let u = ap (λ (q : Bor (List ℕ)). length q.now) (unread_with e (le2 e.now 24) (le2 e.now 26) (le2 e.now 28) f g h) in
    omega (arith, is, u, accepted_room Present e r a, length-drop (33 + le2 e.now 24 + le2 e.now 26 + le2 e.now 28) e.now)

-- three end bytes are 0
three : (p x q y u z : ℕ) → is_ok (ended ((p, x) ∷ (q, y) ∷ (u, z) ∷ [])) ≡ true → (x ≡ 0) × (y ≡ 0) × (z ≡ 0)
unfolding ended
three p x q y u z h = by (eqb x 0) (eqb y 0) (eqb z 0) refl refl refl h
  where
    by : (a b c : Bool) → eqb x 0 ≡ a → eqb y 0 ≡ b → eqb z 0 ≡ c → (let w : Result Unit Refusal = if a then (if b then (if c then Ok tt else Err (EndByte u z)) else Err (EndByte q y)) else Err (EndByte p x) in is_ok w ≡ true)
        → (x ≡ 0) × (y ≡ 0) × (z ≡ 0)
    by true true true e f g h = (eqb-true x 0 e, eqb-true y 0 f, eqb-true z 0 g)
    by true true false e f g h = cc
    by true false c e f g h = cc
    by false b c e f g h = cc

three_back : (p x q y u z : ℕ) → x ≡ 0 → y ≡ 0 → z ≡ 0 → is_ok (ended ((p, x) ∷ (q, y) ∷ (u, z) ∷ [])) ≡ true
unfolding ended
three_back p x q y u z a b d = simp (a, b, d)

both : (l : ℕ) (t : Bool) → (if eqb l 0 then t else false) ≡ true → (l ≡ 0) × (t ≡ true)
both l t h = by (eqb l 0) refl h
  where
    by : (b : Bool) → eqb l 0 ≡ b → (if b then t else false) ≡ true → (l ≡ 0) × (t ≡ true)
    by true e h = (eqb-true l 0 e, h)
    by false e h = cc

both_back : (l : ℕ) (t : Bool) → l ≡ 0 → t ≡ true → (if eqb l 0 then t else false) ≡ true
both_back l t e f = simp (e, f)

module _ (e : Bor (List ℕ)) (r : AdsSymbolInfo) (a : symbol_of Present e ≡ Ok r) (f : has (le2 e.now 20) 0x0008 ≡ false) (g : has (le2 e.now 20) 0x1000 ≡ false) (h : has (le2 e.now 20) 0x8000 ≡ false) where
  whole_is : is_whole e.now r ≡ true → IsWhole e.now
  whole_is w =
      let i = symbols_inside Present e r a in
      let b = both (length r.unread.now) _ w in
      let z = three _ _ _ _ _ _ b.1 in
      let p : 30 + le2 e.now 24 ≡ 30 + length r.name.now = omega (arith, i.name_length) in
      let q : 31 + le2 e.now 24 + le2 e.now 26 ≡ 30 + length r.name.now + 1 + length r.type_name.now = omega (arith, i.name_length, i.type_name_length) in
      let c : 32 + le2 e.now 24 + le2 e.now 26 + le2 e.now 28 ≡ 30 + length r.name.now + 1 + length r.type_name.now + 1 + length r.comment.now = omega (arith, i.name_length, i.type_name_length, i.comment_length) in
      record {
        long = omega (arith, unread_is e r a f g h, b.0);
        name_ended = ap (λ (k : ℕ). get_or e.now k 0) p ∙ z.0;
        type_ended = ap (λ (k : ℕ). get_or e.now k 0) q ∙ z.1;
        comment_ended = ap (λ (k : ℕ). get_or e.now k 0) c ∙ z.2;
      }

  is_whole_of : IsWhole e.now → is_whole e.now r ≡ true
  is_whole_of w =
      let i = symbols_inside Present e r a in
      let p : 30 + length r.name.now ≡ 30 + le2 e.now 24 = omega (arith, i.name_length) in
      let q : 30 + length r.name.now + 1 + length r.type_name.now ≡ 31 + le2 e.now 24 + le2 e.now 26 = omega (arith, i.name_length, i.type_name_length) in
      let c : 30 + length r.name.now + 1 + length r.type_name.now + 1 + length r.comment.now ≡ 32 + le2 e.now 24 + le2 e.now 26 + le2 e.now 28 = omega (arith, i.name_length, i.type_name_length, i.comment_length) in
      both_back (length r.unread.now) _ (omega (arith, unread_is e r a f g h, w.long))
      (three_back _ _ _ _ _ _ (ap (λ (k : ℕ). get_or e.now k 0) p ∙ w.name_ended) (ap (λ (k : ℕ). get_or e.now k 0) q ∙ w.type_ended) (ap (λ (k : ℕ). get_or e.now k 0) c ∙ w.comment_ended))

pub admitted_meant : AdmittedMeant
unfolding admitted
admitted_meant k e r a = by (has r.flags.0 0x0008) (has r.flags.0 0x1000) (has r.flags.0 0x8000) (is_whole e.now r) refl refl refl refl
  where
    is : r.flags.0 ≡ le2 e.now 20
    is = (symbols_inside Present e r a).flags

    told : (bit : ℕ) (b : Bool) → has r.flags.0 bit ≡ b → has (le2 e.now 20) bit ≡ b
    told bit b h = ap (λ (w : ℕ). has w bit) (sym is) ∙ h

    by : (b c d w : Bool) → has r.flags.0 0x0008 ≡ b → has r.flags.0 0x1000 ≡ c → has r.flags.0 0x8000 ≡ d → is_whole e.now r ≡ w
        → IsAdmitted e.now k (if b then Err (NotInSheet k 1) else if c then Err (NotInSheet k 2) else if d then Err (NotInSheet k 3) else if w then Ok tt else Err (NotInSheet k 5))
    by true c d w f g h i = guid (told 0x0008 _ f)
    by false true d w f g h i = attributes (told 0x0008 _ f) (told 0x1000 _ g)
    by false false true w f g h i = extended_flags (told 0x0008 _ f) (told 0x1000 _ g) (told 0x8000 _ h)
    by false false false true f g h i = held (told 0x0008 _ f) (told 0x1000 _ g) (told 0x8000 _ h) (whole_is e r a (told 0x0008 _ f) (told 0x1000 _ g) (told 0x8000 _ h) i)
    by false false false false f g h i = not_whole (told 0x0008 _ f) (told 0x1000 _ g) (told 0x8000 _ h) (λ w. never (sym (is_whole_of e r a (told 0x0008 _ f) (told 0x1000 _ g) (told 0x8000 _ h) w) ∙ i))

-- The cells of a table stand in their columns.
use Rattle.std.proofs.Common.{◌≡◌, ℕ, zero, suc, ◌+◌, ◌-◌, ◌*◌, ◌/◌, ◌%◌, ◌<◌, ◌≤◌, Bool, true, false, List, [], ◌∷◌, ◌++◌, codes, decimal, get_or, length, map, refl, sym, ap, ap₂, subst, ◌∙◌, append_assoc, append-nil, length-append, arith, encode_utf8_all, encode_utf8}
use Rattle.std.specs.Prelude.{take, drop, replicate, Contains, Result, Ok, Err, ◌==◌, if◌then◌else◌}
use Rattle.std.specs.Fmt.{digits, digits_onto, digit_glyph}
use Rattle.std.specs.Borrow.{Bor}
use Rattle.std.proofs.Math.Nat.{le-max_left, le-max_right}
use Rattle.std.proofs.lemmas.List.{length-map, length-replicate}
use Rattle.std.proofs.Math.Seq.{take-append_seam, drop-append-add}
use Rattle.std.proofs.lemmas.List.Elements.{All-contains}
use Rattle.std.proofs.lemmas.Str.{encodes-append, encode_ascii}
use Rattle.le.specs.Le.{le2, le4}
use Rattle.part.specs.End.{IsString}
use Rattle.refusal.specs.Refusal.{limit}
use Rattle.refusal.specs.declared.Refusal.{Refusal}
use Rattle.text.specs.Text.{code_point}
use Rattle.symbol.specs.Inside.{IsInside}
use Rattle.symbol.proofs.Lies.{symbols_inside}
use Rattle.symbol.specs.declared.AdsSymbolInfo.{AdsSymbolInfo}
use Rattle.walk.specs.declared.Piece.{Piece}
use Rattle.wording.specs.Text.{shown, shown_width}
use Rattle.wording.specs.Wording.{refusal_text}
use Rattle.wording.specs.Meant.{IsVisible}
use Rattle.wording.specs.Meant as meant
use Rattle.wording.proofs.Read.{strings_shown}
use Rattle.report.specs.declared.table.Columns.{Columns}
use Rattle.report.specs.Cells.{at_left, at_right, hexadecimal, number_cell, hexadecimal_cell, name_cell, refused_row}
use Rattle.report.specs.Table.{headings, widths_of, widest, fitted, fitted_by, fitted_on, columns_of, headings_text, names_text, numbers_text, counts_text, symbol_row, line_text, row_by}
use Rattle.report.specs.Aligned.{Cell, left, right, IsColumn, IsRow, IsSymbolRow, ColumnsApart, begin, widths, heading_cells, symbol_cells, TablesMeant}
use Rattle.report.specs.Aligned as aligned

-- columns that are at least as wide
record IsWithin (a b : Columns) : Type 0 where
  place : a.place ≤ b.place
  name : a.name ≤ b.name
  type_name : a.type_name ≤ b.type_name
  size : a.size ≤ b.size
  group : a.group ≤ b.group
  offset : a.offset ≤ b.offset
  attributes : a.attributes ≤ b.attributes
  unread : a.unread ≤ b.unread
  high : a.high ≤ b.high

itself : (a : Columns) → IsWithin a a
itself a = record { place = omega arith; name = omega arith; type_name = omega arith; size = omega arith; group = omega arith; offset = omega arith; attributes = omega arith; unread = omega arith; high = omega arith }

further : (a b c : Columns) → IsWithin a b → IsWithin b c → IsWithin a c
further a b c h k = record { place = omega arith; name = omega arith; type_name = omega arith; size = omega arith; group = omega arith; offset = omega arith; attributes = omega arith; unread = omega arith; high = omega arith }

in_widest : (a b : Columns) → IsWithin a (widest a b)
unfolding widest
in_widest a b = record {
  place = le-max_left a.place b.place;
  name = le-max_left a.name b.name;
  type_name = le-max_left a.type_name b.type_name;
  size = le-max_left a.size b.size;
  group = le-max_left a.group b.group;
  offset = le-max_left a.offset b.offset;
  attributes = le-max_left a.attributes b.attributes;
  unread = le-max_left a.unread b.unread;
  high = le-max_left a.high b.high;
}

also_in_widest : (a b : Columns) → IsWithin b (widest a b)
unfolding widest
also_in_widest a b = record {
  place = le-max_right a.place b.place;
  name = le-max_right a.name b.name;
  type_name = le-max_right a.type_name b.type_name;
  size = le-max_right a.size b.size;
  group = le-max_right a.group b.group;
  offset = le-max_right a.offset b.offset;
  attributes = le-max_right a.attributes b.attributes;
  unread = le-max_right a.unread b.unread;
  high = le-max_right a.high b.high;
}

-- an entry's cells fit
abbrev FitsBy : Columns → ℕ → Result AdsSymbolInfo Refusal → Type 0
FitsBy c place (Ok s) = IsWithin (widths_of place s) c
FitsBy c place (Err why) = length (decimal place) ≤ c.place

abbrev Fits : Columns → Piece AdsSymbolInfo → Type 0
Fits c p = FitsBy c p.start p.answer

grown_by : (c : Columns) (place : ℕ) (r : Result AdsSymbolInfo Refusal) → IsWithin c (fitted_by c place r)
grown_by c place (Ok s) = in_widest c (widths_of place s)
grown_by c place (Err why) = record { place = le-max_left c.place (length (decimal place)); name = omega arith; type_name = omega arith; size = omega arith; group = omega arith; offset = omega arith; attributes = omega arith; unread = omega arith; high = omega arith }

fits_by : (c : Columns) (place : ℕ) (r : Result AdsSymbolInfo Refusal) → FitsBy (fitted_by c place r) place r
fits_by c place (Ok s) = also_in_widest c (widths_of place s)
fits_by c place (Err why) = le-max_right c.place (length (decimal place))

fits_in : (a b : Columns) (place : ℕ) (r : Result AdsSymbolInfo Refusal) → FitsBy a place r → IsWithin a b → FitsBy b place r
fits_in a b place (Ok s) h k = further (widths_of place s) a b h k
fits_in a b place (Err why) h k = omega (arith, h)

grown : (c : Columns) (ps : List (Piece AdsSymbolInfo)) → IsWithin c (fitted_on c ps)
unfolding fitted_on fitted
grown c [] = itself c
grown c (p ∷ ps) = further c (fitted c p) (fitted_on (fitted c p) ps) (grown_by c p.start p.answer) (grown (fitted c p) ps)

fit_all : (c : Columns) (ps : List (Piece AdsSymbolInfo)) (k : ℕ) (d : Piece AdsSymbolInfo) → k < length ps → Fits (fitted_on c ps) (get_or ps k d)
unfolding fitted_on fitted
fit_all c [] k d lt = absurd (omega (arith, lt))
fit_all c (p ∷ ps) zero d lt = fits_in (fitted c p) (fitted_on (fitted c p) ps) p.start p.answer (fits_by c p.start p.answer) (grown (fitted c p) ps)
fit_all c (p ∷ ps) (suc k) d lt = fit_all (fitted c p) ps k d (omega (arith, lt))

fits : (ps : List (Piece AdsSymbolInfo)) (p : Piece AdsSymbolInfo) → Contains ps p → Fits (columns_of ps) p
fits ps p h = All-contains (Fits (columns_of ps)) ps p (fit_all headings ps) h

-- ASCII is its own UTF-8
pub record IsPlainText (t : List ℕ) : Type 0 where
  pub is : encode_utf8_all t ≡ t

pub plain_nil : IsPlainText []
plain_nil = record { is = refl }

pub plain_cons : (c : ℕ) (t : List ℕ) → c < 128 → IsPlainText t → IsPlainText (c ∷ t)
plain_cons c t low h = record { is = ap₂ (λ (x y : List ℕ). x ++ y) (encode_ascii c low) h.is }

pub plain_append : (s t : List ℕ) → IsPlainText s → IsPlainText t → IsPlainText (s ++ t)
plain_append s t p q = record { is = encodes-append s t ∙ ap₂ (λ (x y : List ℕ). x ++ y) p.is q.is }

pub plain_spaces : (n : ℕ) → IsPlainText (replicate n 32)
plain_spaces zero = plain_nil
plain_spaces (suc n) = plain_cons 32 (replicate n 32) (omega arith) (plain_spaces n)

glyph_low : (upper : Bool) (d : ℕ) → d < 16 → digit_glyph upper d < 128
glyph_low upper d h = grind arith

plain_onto : (k base : ℕ) (upper : Bool) (n : ℕ) (acc : List ℕ) → 0 < base → base ≤ 16 → IsPlainText acc → IsPlainText (digits_onto k base upper n acc)
plain_onto zero base upper n acc some few h = h
plain_onto (suc k) base upper n acc some few h =
    let own : IsPlainText (digit_glyph upper (n % base) ∷ acc) = plain_cons (digit_glyph upper (n % base)) acc (glyph_low upper (n % base) (omega arith)) h in
    go (n / base == 0) own (plain_onto k base upper (n / base) (digit_glyph upper (n % base) ∷ acc) some few own)
  where
    go : (z : Bool) → IsPlainText (digit_glyph upper (n % base) ∷ acc) → IsPlainText (digits_onto k base upper (n / base) (digit_glyph upper (n % base) ∷ acc))
        → IsPlainText (if z then digit_glyph upper (n % base) ∷ acc else digits_onto k base upper (n / base) (digit_glyph upper (n % base) ∷ acc))
    go true own more = own
    go false own more = more

pub plain_digits : (base : ℕ) (upper : Bool) (n : ℕ) → 0 < base → base ≤ 16 → IsPlainText (digits base upper n)
unfolding digits
plain_digits base upper n some few = plain_onto 64 base upper n [] some few plain_nil

-- what is written of a column, and of a row
pub record Column (w : ℕ) (c : Cell) (bytes : List ℕ) : Type 0 where
  pub text : List ℕ
  pub is : bytes ≡ encode_utf8_all text
  pub column : IsColumn w c text

pub record Row (ws : List ℕ) (cs : List Cell) (bytes : List ℕ) : Type 0 where
  pub text : List ℕ
  pub is : bytes ≡ encode_utf8_all text
  pub row : IsRow ws cs text

pub on_right : (w width : ℕ) (text : List ℕ) → IsPlainText text → length text ≡ width → width ≤ w → Column w (right text) (at_right w width text)
on_right w width text p l h = record {
  text = replicate (w - width) 32 ++ text;
  is = sym (plain_append (replicate (w - width) 32) text (plain_spaces (w - width)) p).is;
  column = aligned.IsColumn.at_right text (w - width) (omega (arith, l, h));
}

pub on_left : (w width : ℕ) (bytes text : List ℕ) → bytes ≡ encode_utf8_all text → width ≡ length text → width ≤ w → Column w (left text) (at_left w width bytes)
on_left w width bytes text e l h = record {
  text = text ++ replicate (w - width) 32;
  is = ap₂ (λ (x y : List ℕ). x ++ y) e (sym (plain_spaces (w - width)).is) ∙ sym (encodes-append text (replicate (w - width) 32));
  column = aligned.IsColumn.at_left text (w - width) (omega (arith, l, h));
}

pub in_number : (w n : ℕ) → length (decimal n) ≤ w → Column w (right (decimal n)) (number_cell w n)
unfolding number_cell
in_number w n h = on_right w (length (decimal n)) (decimal n) (plain_digits 10 false n (omega arith) (omega arith)) refl h

in_hexadecimal : (w n : ℕ) → length (digits 16 true n) + 2 ≤ w → Column w (right (hexadecimal n)) (hexadecimal_cell w n)
unfolding hexadecimal_cell
in_hexadecimal w n h =
    on_right w (length (digits 16 true n) + 2) (hexadecimal n) (plain_cons 48 (120 ∷ digits 16 true n) (omega arith) (plain_cons 120 (digits 16 true n) (omega arith) (plain_digits 16 true n (omega arith) (omega arith)))) (omega arith) h

-- a byte takes four characters at most
visible_long : (t s : List ℕ) → IsVisible t s → length t ≤ 4 * length s
visible_long t s meant.IsVisible.nothing = omega arith
visible_long t s (meant.IsVisible.numbered c h l u v control is high low rest) = omega (arith, visible_long u v rest)
visible_long t s (meant.IsVisible.itself c u v ordinary rest) = omega (arith, visible_long u v rest)

pub record Seen (w : ℕ) (s : List ℕ) : Type 0 where
  pub text : List ℕ
  pub visible : IsVisible text (map code_point s)
  pub column : Column w (left text) (name_cell w s)

-- what is shown of a string that is no longer than an upload, in characters
pub record Visible (s : List ℕ) : Type 0 where
  pub text : List ℕ
  pub is : shown s ≡ encode_utf8_all text
  pub visible : IsVisible text (map code_point s)
  pub wide : shown_width s ≡ length text
  pub few : length text ≤ 4 * limit

pub in_characters : (s : List ℕ) → length s ≤ limit → Visible s
in_characters s short =
    let r = strings_shown s in
    let few : length r.0 ≤ 4 * limit = omega (arith, visible_long r.0 (map code_point s) r.2, length-map s code_point, short) in
    record { text = r.0; is = r.1; visible = r.2; wide = r.3 (omega (arith, few)); few = few }

pub in_name : (w : ℕ) (s : List ℕ) → length s ≤ limit → shown_width s ≤ w → Seen w s
unfolding name_cell
in_name w s short h =
    let r = in_characters s short in
    record { text = r.text; visible = r.visible; column = on_left w (shown_width s) (shown s) r.text r.is r.wide h }

pub row_last : {w : ℕ} {c : Cell} {b : List ℕ} → Column w c b → Row (w ∷ []) (c ∷ []) b
row_last p = record { text = p.text; is = p.is; row = aligned.IsRow.last p.column }

pub row_more : {w : ℕ} {ws : List ℕ} {c : Cell} {cs : List Cell} {b r : List ℕ} → Column w c b → Row ws cs r → Row (w ∷ ws) (c ∷ cs) (b ++ (codes "  " ++ r))
unfolding lib.Utf8.encode
row_more {b = b} {r = r} p q = record {
  text = p.text ++ (32 ∷ 32 ∷ q.text);
  is = ap₂ (λ (x y : List ℕ). x ++ (32 ∷ 32 ∷ y)) p.is q.is ∙ sym (encodes-append p.text (32 ∷ 32 ∷ q.text));
  row = aligned.IsRow.more p.column q.row;
}

-- three cells before others
three_on : (a b c x : List ℕ) → (a ++ (codes "  " ++ (b ++ (codes "  " ++ c)))) ++ (codes "  " ++ x) ≡ a ++ (codes "  " ++ (b ++ (codes "  " ++ (c ++ (codes "  " ++ x)))))
three_on a b c x = append_assoc a (codes "  " ++ (b ++ (codes "  " ++ c))) (codes "  " ++ x) ∙ ap (λ (t : List ℕ). a ++ (codes "  " ++ t)) (append_assoc b (codes "  " ++ c) (codes "  " ++ x))

flat_row : (c : Columns) (place : ℕ) (s : AdsSymbolInfo) → symbol_row c place s
    ≡ number_cell c.place place ++ (codes "  " ++ (name_cell c.name s.name.now ++ (codes "  " ++ (name_cell c.type_name s.type_name.now
    ++ (codes "  " ++ (number_cell c.size s.size ++ (codes "  " ++ (hexadecimal_cell c.group s.index_group.0 ++ (codes "  " ++ (hexadecimal_cell c.offset s.index_offset.0
    ++ (codes "  " ++ counts_text c s)))))))))))
unfolding symbol_row names_text numbers_text
flat_row c place s =
    ap (λ (t : List ℕ). names_text c place s ++ (codes "  " ++ t)) (three_on (number_cell c.size s.size) (hexadecimal_cell c.group s.index_group.0) (hexadecimal_cell c.offset s.index_offset.0) (counts_text c s))
    ∙ three_on (number_cell c.place place) (name_cell c.name s.name.now) (name_cell c.type_name s.type_name.now) _

-- the cells by what the record tells
abbrev symbol_cells_of : ℕ → AdsSymbolInfo → List ℕ → List ℕ → List Cell
symbol_cells_of place s name type_name =
    right (decimal place) ∷ left name ∷ left type_name ∷ right (decimal s.size) ∷ right (hexadecimal s.index_group.0) ∷ right (hexadecimal s.index_offset.0)
    ∷ right (decimal s.attributes.count) ∷ right (decimal (length s.unread.now)) ∷ right (decimal s.high) ∷ []

string_is : (e s : Bor (List ℕ)) (at n : ℕ) → IsString e at s → length s.now ≡ n → s.now ≡ take n (drop at e.now)
string_is e s at n h l = ap (λ (b : Bor (List ℕ)). b.now) h.is ∙ ap (λ (k : ℕ). take k (drop at e.now)) l

abbrev last_cells : AdsSymbolInfo → List ℕ → ℕ → List Cell
last_cells s offset high = right offset ∷ right (decimal s.attributes.count) ∷ right (decimal (length s.unread.now)) ∷ right (decimal high) ∷ []

by_bytes : (place : ℕ) (e : Bor (List ℕ)) (s : AdsSymbolInfo) (name type_name : List ℕ) → IsInside e s → symbol_cells_of place s name type_name ≡ symbol_cells place e.now s name type_name
by_bytes place e s name type_name i =
    ap (λ (x : ℕ). right (decimal place) ∷ left name ∷ left type_name ∷ right (decimal x) ∷ right (hexadecimal s.index_group.0) ∷ last_cells s (hexadecimal s.index_offset.0) s.high) i.size
    ∙ ap (λ (x : ℕ). right (decimal place) ∷ left name ∷ left type_name ∷ right (decimal (le4 e.now 12)) ∷ right (hexadecimal x) ∷ last_cells s (hexadecimal s.index_offset.0) s.high) i.index_group
    ∙ ap (λ (x : ℕ). right (decimal place) ∷ left name ∷ left type_name ∷ right (decimal (le4 e.now 12)) ∷ right (hexadecimal (le4 e.now 4)) ∷ last_cells s (hexadecimal x) s.high) i.index_offset
    ∙ ap (λ (x : ℕ). right (decimal place) ∷ left name ∷ left type_name ∷ right (decimal (le4 e.now 12)) ∷ right (hexadecimal (le4 e.now 4)) ∷ last_cells s (hexadecimal (le4 e.now 8)) x) i.high

symbol_line : (c : Columns) (place : ℕ) (e : Bor (List ℕ)) (s : AdsSymbolInfo) → IsInside e s → length e.now ≤ limit → IsWithin (widths_of place s) c
    → IsSymbolRow (widths c) place e.now s (symbol_row c place s ++ codes "\n")
unfolding widths_of counts_text
symbol_line c place e s i small f =
    let name_is = string_is e s.name 30 (le2 e.now 24) i.name i.name_length in
    let type_is = string_is e s.type_name (31 + length s.name.now) (le2 e.now 26) i.type_name i.type_name_length
    ∙ ap (λ (k : ℕ). take (le2 e.now 26) (drop (31 + k) e.now)) i.name_length in
    let name = in_name c.name s.name.now (omega (arith, i.name.within, small)) f.name in
    let kind = in_name c.type_name s.type_name.now (omega (arith, i.type_name.within, small)) f.type_name in
    let own : Row (widths c) (symbol_cells_of place s name.text kind.text) (symbol_row c place s)
    = subst (Row (widths c) (symbol_cells_of place s name.text kind.text)) (sym (flat_row c place s))
    (row_more (in_number c.place place f.place) (row_more name.column (row_more kind.column
    (row_more (in_number c.size s.size f.size) (row_more (in_hexadecimal c.group s.index_group.0 f.group) (row_more (in_hexadecimal c.offset s.index_offset.0 f.offset)
    (row_more (in_number c.attributes s.attributes.count f.attributes) (row_more (in_number c.unread (length s.unread.now) f.unread) (row_last (in_number c.high s.high f.high)))))))))) in
    record {
      name = name.text;
      type_name = kind.text;
      row = own.text;
      is_name = subst (λ (t : List ℕ). IsVisible name.text (map code_point t)) name_is name.visible;
      is_type = subst (λ (t : List ℕ). IsVisible kind.text (map code_point t)) type_is kind.visible;
      is = ap (λ (t : List ℕ). t ++ codes "\n") own.is;
      cells = subst (λ (cs : List Cell). IsRow (widths c) cs own.text) (by_bytes place e s name.text kind.text i) own.row;
    }

heading : (c : Columns) → IsWithin headings c → IsRow (widths c) heading_cells (headings_text c)
unfolding headings_text
heading c f =
    aligned.IsRow.more (word c.place (codes "place") f.place) (aligned.IsRow.more (name c.name (codes "name") f.name) (aligned.IsRow.more (name c.type_name (codes "type") f.type_name)
    (aligned.IsRow.more (word c.size (codes "size") f.size) (aligned.IsRow.more (word c.group (codes "group") f.group) (aligned.IsRow.more (word c.offset (codes "offset") f.offset)
    (aligned.IsRow.more (word c.attributes (codes "attrs") f.attributes) (aligned.IsRow.more (word c.unread (codes "unread") f.unread) (aligned.IsRow.last (word c.high (codes "high") f.high)))))))))
  where
    word : (w : ℕ) (text : List ℕ) → length text ≤ w → IsColumn w (right text) (at_right w (length text) text)
    word w text h = aligned.IsColumn.at_right text (w - length text) (omega (arith, h))

    name : (w : ℕ) (text : List ℕ) → length text ≤ w → IsColumn w (left text) (at_left w (length text) text)
    name w text h = aligned.IsColumn.at_left text (w - length text) (omega (arith, h))

pub refused_line : (column place : ℕ) (why : Refusal) → length (decimal place) ≤ column
    → (t : List ℕ) × IsColumn column (right (decimal place)) t × (refused_row column place why ++ codes "\n" ≡ t ++ (codes "  " ++ (refusal_text why ++ codes "\n")))
unfolding refused_row number_cell
refused_line column place why h = (
  at_right column (length (decimal place)) (decimal place),
  aligned.IsColumn.at_right (decimal place) (column - length (decimal place)) (omega (arith, h)),
  append_assoc (at_right column (length (decimal place)) (decimal place)) (codes "  " ++ refusal_text why) (codes "\n"),
)

-- a column's characters are as many as it is wide
wide : (w : ℕ) (c : Cell) (t : List ℕ) → IsColumn w c t → length t ≡ w
wide w c t (aligned.IsColumn.at_left text gap h) = length-append text (replicate gap 32) ∙ ap (λ (n : ℕ). length text + n) (length-replicate gap 32) ∙ h
wide w c t (aligned.IsColumn.at_right text gap h) = length-append (replicate gap 32) text ∙ ap (λ (n : ℕ). n + length text) (length-replicate gap 32) ∙ omega (arith, h)

taken : (t r : List ℕ) (w : ℕ) → length t ≡ w → take w (t ++ r) ≡ t
taken t r w h = ap (λ (n : ℕ). take n (t ++ r)) (sym h) ∙ take-append_seam t r

dropped : (t r : List ℕ) (w k : ℕ) → length t ≡ w → drop (w + k) (t ++ r) ≡ drop k r
dropped t r w k h = ap (λ (n : ℕ). drop (n + k) (t ++ r)) (sym h) ∙ drop-append-add t r k

columns_apart : ColumnsApart
unfolding begin
columns_apart ws cs t (aligned.IsRow.last {w = w} {c = c} {t = v} p) zero lt = subst (IsColumn w c) (sym (ap (take w) (sym (append-nil v)) ∙ taken v [] w (wide w c v p))) p
columns_apart ws cs t (aligned.IsRow.last {w = w} {c = c} {t = v} p) (suc k) lt = absurd (omega (arith, lt))
columns_apart ws cs t (aligned.IsRow.more {w = w} {ws = us} {c = c} {cs = ds} {t = x} {r = r} p q) zero lt = subst (IsColumn w c) (sym (taken x (32 ∷ 32 ∷ r) w (wide w c x p))) p
columns_apart ws cs t (aligned.IsRow.more {w = w} {ws = us} {c = c} {cs = ds} {t = x} {r = r} p q) (suc k) lt =
    let two : 2 + begin us k ≡ suc (suc (begin us k)) = omega arith in
    let behind : drop (w + (2 + begin us k)) (x ++ (32 ∷ 32 ∷ r)) ≡ drop (begin us k) r = dropped x (32 ∷ 32 ∷ r) w (2 + begin us k) (wide w c x p) ∙ ap (λ (n : ℕ). drop n (32 ∷ 32 ∷ r)) two in
    subst (λ (u : List ℕ). IsColumn (get_or us k 0) (get_or ds k (left [])) (take (get_or us k 0) u)) (sym behind) (columns_apart us ds r q k (omega (arith, lt)))

pub tables_meant : TablesMeant
unfolding line_text
tables_meant = record {
  headings = λ ps. heading (columns_of ps) (grown headings ps);
  accepted = λ ps p mode e s h a r small.
      let f : FitsBy (columns_of ps) p.start (Ok s) = subst (FitsBy (columns_of ps) p.start) a (fits ps p h) in
      let line = symbol_line (columns_of ps) p.start e s (symbols_inside mode e s r) small f in
      subst (IsSymbolRow (widths (columns_of ps)) p.start e.now s) (sym (ap (λ (x : Result AdsSymbolInfo Refusal). row_by (columns_of ps) p.start x ++ codes "\n") a)) line;
  refused = λ ps p why h a.
      let f : FitsBy (columns_of ps) p.start (Err why) = subst (FitsBy (columns_of ps) p.start) a (fits ps p h) in
      let line = refused_line (columns_of ps).place p.start why f in
      (line.0, line.1, ap (λ (x : Result AdsSymbolInfo Refusal). row_by (columns_of ps) p.start x ++ codes "\n") a ∙ line.2);
  apart = columns_apart;
}

-- Every upload that has a sheet is the upload of that sheet.
use Rattle.std.proofs.Common.{ℕ, zero, suc, ◌+◌, ◌-◌, ◌<◌, ◌≤◌, ◌≡◌, refl, sym, ap, ap₂, subst, ◌∙◌, Bool, true, false, List, [], ◌∷◌, ◌++◌, length, drop, get_or, append_assoc, arith}
use Rattle.std.specs.Prelude.{Option, Some, None, Result, Ok, Err, ltb, leb, ◌&&◌, decimal, codes, if◌then◌else◌}
use Rattle.std.specs.Option.{ok_or}
use Rattle.std.specs.List.{All, list_any, list_all}
use Rattle.std.specs.Borrow.{Bor}
use Rattle.std.proofs.lemmas.List.{drop_all}
use Rattle.std.proofs.lemmas.List.Elements.{All-take, All-drop}
use borrow.Author.Tests.{le-ltb, ltb-true, ltb-false, leb-true}
use Rattle.le.specs.Le.{le2, le4, has, part}
use Rattle.le.proofs.Laws.{drop_part, length_part, get_d_part}
use Rattle.part.specs.Outcome.{and_then}
use Rattle.refusal.specs.Refusal.{limit}
use Rattle.refusal.specs.declared.Mode.TheVariants.{Present}
use Rattle.refusal.specs.declared.Refusal.{Refusal}
use Rattle.refusal.specs.declared.Refusal.TheVariants.{TooLarge, BadSheet}
use Rattle.walk.specs.Steps.{IsStep, ended as step_ended, large, short, beyond, below as step_below, own as step_own}
use Rattle.writing.specs.Checks.{size_checked}
use Rattle.symbol.specs.declared.AdsSymbolInfo.{AdsSymbolInfo}
use Rattle.symbol.specs.Symbol.{symbol_of}
use Rattle.symbol.proofs.Writable.{strings_pass}
use Rattle.text.specs.RoundTrip.{AreBytes}
use Rattle.text.specs.Text.{encoded_from}
use Rattle.plain.proofs.Bytes.{two_small, four_small}
use Rattle.sheet.specs.Cells.{is_special, escaped_all}
use Rattle.sheet.specs.CellsMeant.{IsRow as IsSheetRow}
use Rattle.sheet.specs.Export.{exporting}
use Rattle.sheet.specs.ExportMeant.{IsWhole, IsAdmitted, held, Rows, done, row as sheet_row}
use Rattle.sheet.proofs.Meant.{plain_all}
use Rattle.sheet.proofs.Exports.{exports_meant}
use Rattle.sheet_rows.specs.declared.cells.Cells.{Cells}
use Rattle.sheet_rows.specs.declared.numbers.Numbers.{Numbers}
use Rattle.sheet_rows.specs.Cells.{if_some}
use Rattle.sheet_rows.specs.Numbers.{number_of}
use Rattle.sheet_rows.specs.Rows.{Line, flags_of, numbers_of, line_of, lines_from, is_bare, is_header, behind_header, lines_of}
use Rattle.sheet_rows.specs.Meant.{IsCell, plain, crlf, IsRow, ended, comma, texts_of}
use Rattle.sheet_rows.specs.SheetMeant.{words}
use Rattle.sheet_rows.proofs.NumbersRead.{number_read}
use Rattle.sheet_rows.proofs.RowsRead.{rows_meant, cells_shorter}
use Rattle.sheet_rows.proofs.Lines.{line_parts, line_whole, line_then, lines_none}
use Rattle.sheet_rows.proofs.SheetRead.{words_header}
use Rattle.sheet_import.specs.Strings.{string_of, IsText}
use Rattle.sheet_import.specs.Import.{numbers_bytes, entry_of, upload_of, cells_checked, lines_checked, told, size_of, importing}
use Rattle.sheet_import.proofs.StringsRead.{string_escaped, encoded_decoded}
use Rattle.sheet_import.proofs.Sizes.{upload_then, upload_none}
use Rattle.sheets_back.specs.Back.{SheetsComeBack}
use Rattle.sheets_back.proofs.Written.{cell_back, number_cell, text_none, text_both, text_one, text_number, text_cell}
use Rattle.sheets_back.proofs.Laid as laid

-- ---- one entry
abbrev row_texts : List ℕ → List (List ℕ)
row_texts e =
    decimal (le4 e 4) ∷ decimal (le4 e 8) ∷ decimal (le4 e 12) ∷ decimal (le4 e 16) ∷ decimal (le2 e 20) ∷ decimal (le2 e 22)
    ∷ escaped_all (laid.name e) ∷ escaped_all (laid.type_name e) ∷ escaped_all (laid.comment e) ∷ []

record Entry (e : List ℕ) : Type 0 where
  bytes : All (λ b. b < 256) e
  claims : le4 e 0 ≡ length e
  whole : IsWhole e
  guid : has (le2 e 20) 0x0008 ≡ false
  attributes : has (le2 e 20) 0x1000 ≡ false
  extended_flags : has (le2 e 20) 0x8000 ≡ false
  group_fits : le4 e 4 < 4294967296
  offset_fits : le4 e 8 < 4294967296
  size_fits : le4 e 12 < 4294967296
  type_fits : le4 e 16 < 4294967296
  flags_fit : le2 e 20 < 65536
  high_fits : le2 e 22 < 65536
  name_fits : le2 e 24 < 65536
  type_name_fits : le2 e 26 < 65536
  comment_fits : le2 e 28 < 65536

-- nine cells, the comma behind each but the last, and CRLF
abbrev spelt : (a b c d f g n t k y : List ℕ) → List ℕ
spelt a b c d f g n t k y =
    let strings : List ℕ = n ++ (44 ∷ (t ++ (44 ∷ (k ++ (13 ∷ 10 ∷ y))))) in
    let kinds : List ℕ = d ++ (44 ∷ (f ++ (44 ∷ (g ++ (44 ∷ strings))))) in
    a ++ (44 ∷ (b ++ (44 ∷ (c ++ (44 ∷ kinds)))))

spelt_is : (a b c d f g n t k y : List ℕ)
    → (((a ++ codes ",") ++ ((b ++ codes ",") ++ ((c ++ codes ",") ++ ((d ++ codes ",") ++ ((f ++ codes ",") ++ (g ++ codes ","))))))
    ++ (n ++ (codes "," ++ (t ++ (codes "," ++ (k ++ codes "\r\n")))))) ++ y ≡ spelt a b c d f g n t k y
spelt_is a b c d f g n t k y = simp append_assoc

-- its row, with what is behind it, by the cells
row_back : (e text y : List ℕ) → Entry e → IsSheetRow e text → IsRow (row_texts e) (text ++ y) y
row_back e text y i r =
    let n : AreBytes (laid.name e) = laid.name_bytes e i.bytes i.claims i.whole in
    let t : AreBytes (laid.type_name e) = laid.type_bytes e i.bytes i.claims i.whole in
    let c : AreBytes (laid.comment e) = laid.comment_bytes e i.bytes i.claims i.whole in
    let all : IsRow (row_texts e) (spelt (decimal (le4 e 4)) (decimal (le4 e 8)) (decimal (le4 e 12)) (decimal (le4 e 16)) (decimal (le2 e 20)) (decimal (le2 e 22)) r.name r.type_name r.comment y) y =
    comma (number_cell (le4 e 4) i.group_fits) (comma (number_cell (le4 e 8) i.offset_fits) (comma (number_cell (le4 e 12) i.size_fits)
    (comma (number_cell (le4 e 16) i.type_fits) (comma (number_cell (le2 e 20) (omega (arith, i.flags_fit))) (comma (number_cell (le2 e 22) (omega (arith, i.high_fits)))
    (comma (cell_back n r.name_cell) (comma (cell_back t r.type_cell) (ended (cell_back c r.comment_cell) crlf)))))))) in
    let same : text ++ y ≡ spelt (decimal (le4 e 4)) (decimal (le4 e 8)) (decimal (le4 e 12)) (decimal (le4 e 16)) (decimal (le2 e 20)) (decimal (le2 e 22)) r.name r.type_name r.comment y =
    ap (λ (l : List ℕ). l ++ y) r.is ∙ spelt_is _ _ _ _ _ _ r.name r.type_name r.comment y in
    subst (λ (l : List ℕ). IsRow (row_texts e) l y) (sym same) all

number_there : (most n : ℕ) (t : List ℕ) → most < 4294967296 → n ≤ most → t ≡ decimal n → number_of most t ≡ Some n
number_there most n t h k e = number_read most n t h k (record { zeros = 0; is = e })

flags_there : (n : ℕ) (t : List ℕ) → n < 65536 → t ≡ decimal n → has n 0x0008 ≡ false → has n 0x1000 ≡ false → has n 0x8000 ≡ false → flags_of t ≡ Some n
unfolding flags_of
flags_there n t h e f g k =
    let bare : ◌≡◌ {A = Option ℕ} (if is_bare n then Some n else None) (Some n) = simp (f, g, k) in
    ap (λ (o : Option ℕ). if_some o (λ f. if is_bare f then Some f else None)) (number_there 65535 n t (omega arith) (omega (arith, h)) e) ∙ bare

abbrev numbers_are : List ℕ → Numbers
numbers_are e = record { index_group = le4 e 4; index_offset = le4 e 8; size = le4 e 12; data_type_id = le4 e 16; flags = le2 e 20; high = le2 e 22 }

numbers_read : (e : List ℕ) (c : Cells) → Entry e → texts_of c ≡ row_texts e → numbers_of c ≡ Ok (numbers_are e)
unfolding numbers_of
numbers_read e c i h =
    let at = λ (k : ℕ). ap (λ (l : List (List ℕ)). get_or l k []) h in
    let a = number_there 4294967295 (le4 e 4) c.places.first.now (omega arith) (omega (arith, i.group_fits)) (at 0) in
    let b = number_there 4294967295 (le4 e 8) c.places.second.now (omega arith) (omega (arith, i.offset_fits)) (at 1) in
    let d = number_there 4294967295 (le4 e 12) c.places.third.now (omega arith) (omega (arith, i.size_fits)) (at 2) in
    let f = number_there 4294967295 (le4 e 16) c.kinds.first.now (omega arith) (omega (arith, i.type_fits)) (at 3) in
    let g = flags_there (le2 e 20) c.kinds.second.now i.flags_fit (at 4) i.guid i.attributes i.extended_flags in
    let j = number_there 65535 (le2 e 22) c.kinds.third.now (omega arith) (omega (arith, i.high_fits)) (at 5) in
    simp (a, b, d, f, g, j)

-- the row that is read
record Row_back (e y : List ℕ) (t : Bor (List ℕ)) : Type 0 where
  line : Line
  is : line_of t ≡ Ok line
  rest : line.cells.strings.rest.now ≡ y
  bytes : entry_of line.numbers line.cells.strings ≡ e
  fits : cells_checked line.cells.strings ≡ Ok tt

entry_there : (e : List ℕ) (c : Cells) → Entry e → texts_of c ≡ row_texts e → entry_of (numbers_are e) c.strings ≡ e
unfolding entry_of numbers_bytes
entry_there e c i h =
    let at = λ (k : ℕ). ap (λ (l : List (List ℕ)). get_or l k []) h in
    let n = ap string_of (at 6) ∙ string_escaped (laid.name e) (laid.name_bytes e i.bytes i.claims i.whole) in
    let t = ap string_of (at 7) ∙ string_escaped (laid.type_name e) (laid.type_bytes e i.bytes i.claims i.whole) in
    let k = ap string_of (at 8) ∙ string_escaped (laid.comment e) (laid.comment_bytes e i.bytes i.claims i.whole) in
    simp (n, t, k) (sym (laid.entry_is e i.bytes i.claims i.whole))

fits_there : (e : List ℕ) (c : Cells) → Entry e → texts_of c ≡ row_texts e → cells_checked c.strings ≡ Ok tt
unfolding cells_checked
fits_there e c i h =
    let at = λ (k : ℕ). ap (λ (l : List (List ℕ)). get_or l k []) h in
    let n = ap string_of (at 6) ∙ string_escaped (laid.name e) (laid.name_bytes e i.bytes i.claims i.whole) in
    let t = ap string_of (at 7) ∙ string_escaped (laid.type_name e) (laid.type_bytes e i.bytes i.claims i.whole) in
    let k = ap string_of (at 8) ∙ string_escaped (laid.comment e) (laid.comment_bytes e i.bytes i.claims i.whole) in
    strings_pass (string_of c.strings.first.now) (string_of c.strings.second.now) (string_of c.strings.third.now) (record {
      name_fits = omega (arith, ap length n, laid.name_long e i.bytes i.claims i.whole, i.name_fits);
      type_fits = omega (arith, ap length t, laid.type_long e i.bytes i.claims i.whole, i.type_name_fits);
      comment_fits = omega (arith, ap length k, laid.comment_long e i.bytes i.claims i.whole, i.comment_fits);
    })

row_read : (e text y : List ℕ) (t : Bor (List ℕ)) → Entry e → IsSheetRow e text → t.now ≡ text ++ y → Row_back e y t
row_read e text y t i r h =
    let p = rows_meant.only t (row_texts e) y refl (subst (λ (l : List ℕ). IsRow (row_texts e) l y) (sym h) (row_back e text y i r)) in
    let l : Line = record { cells = p.0; numbers = numbers_are e } in
    record {
      line = l;
      is = line_whole t l (record { cells = p.1; numbers = numbers_read e p.0 i p.2 });
      rest = p.3;
      bytes = entry_there e p.0 i p.2;
      fits = fits_there e p.0 i p.2;
    }

text_row : (e text : List ℕ) → Entry e → IsSheetRow e text → IsText text
text_row e text i r =
    let num = λ (n : ℕ) (h : n < 4294967296). text_both (decimal n) (44 ∷ []) (text_number n h) (text_one 44 [] (omega arith) text_none) in
    let name = text_cell (laid.name_bytes e i.bytes i.claims i.whole) r.name_cell in
    let type_name = text_cell (laid.type_bytes e i.bytes i.claims i.whole) r.type_cell in
    let comment = text_cell (laid.comment_bytes e i.bytes i.claims i.whole) r.comment_cell in
    subst IsText (sym r.is) (text_both _ _
    (text_both _ _ (num (le4 e 4) i.group_fits) (text_both _ _ (num (le4 e 8) i.offset_fits) (text_both _ _ (num (le4 e 12) i.size_fits)
    (text_both _ _ (num (le4 e 16) i.type_fits) (text_both _ _ (num (le2 e 20) (omega (arith, i.flags_fit))) (num (le2 e 22) (omega (arith, i.high_fits))))))))
    (text_both _ _ name (text_one 44 _ (omega arith) (text_both _ _ type_name (text_one 44 _ (omega arith) (text_both _ _ comment (text_one 13 _ (omega arith) (text_one 10 _ (omega arith) text_none))))))))

-- ---- an entry of an upload
le4_first : (s : List ℕ) (at n : ℕ) → 4 ≤ n → le4 (part s at n) 0 ≡ le4 s at
unfolding le4
le4_first s at n h =
    let z : at + 0 ≡ at = omega arith in
    let a = get_d_part s at n 0 0 (omega arith) ∙ ap (λ (k : ℕ). get_or s k 0) z in
    let b = get_d_part s at n 1 0 (omega arith) in
    let c = get_d_part s at n 2 0 (omega arith) in
    let d = get_d_part s at n 3 0 (omega arith) in
    omega (arith, a, b, c, d)

all_part : (s : List ℕ) (at n : ℕ) → All (λ b. b < 256) s → All (λ b. b < 256) (part s at n)
unfolding part
all_part s at n h = All-take (λ b. b < 256) n (drop at s) (All-drop (λ b. b < 256) at s h)

pub record Own (s : Bor (List ℕ)) (at next : ℕ) : Type 0 where
  pub claims : at + le4 s.now at ≡ next
  pub inside : at + le4 s.now at ≤ length s.now
  pub long : 30 ≤ le4 s.now at

pub own_step : (s : Bor (List ℕ)) (at next : ℕ) (answer : Option (Result AdsSymbolInfo Refusal)) → IsStep 30 (symbol_of Present) s at answer next → (r : AdsSymbolInfo) → answer ≡ Some (Ok r) → Own s at next
own_step s at next a (step_ended h) r e = cc
own_step s at next a (large h b) r e = cc
own_step s at next a (short h b d) r e = cc
own_step s at next a (beyond h b d g) r e = cc
own_step s at next a (step_below h b d g i) r e = cc
own_step s at next a (step_own h b d g i) r e = record { claims = refl; inside = omega arith; long = i }

entry_by : (s : Bor (List ℕ)) (at next k : ℕ) (u : Result Unit Refusal) → All (λ b. b < 256) s.now → Own s at next → IsAdmitted (part s.now at (next - at)) k u → u ≡ Ok tt → Entry (part s.now at (next - at))
entry_by s at next k u all o (held a b c w) h =
    let e : List ℕ = part s.now at (next - at) in
    let n : next - at ≡ le4 s.now at = omega (arith, o.claims) in
    let bytes : All (λ b. b < 256) e = all_part s.now at (next - at) all in
    record {
      bytes = bytes;
      claims = le4_first s.now at (next - at) (omega (arith, n, o.long)) ∙ sym (length_part s.now at (next - at) (omega (arith, n, o.inside)) ∙ n);
      whole = w;
      guid = a;
      attributes = b;
      extended_flags = c;
      group_fits = four_small e 4 bytes;
      offset_fits = four_small e 8 bytes;
      size_fits = four_small e 12 bytes;
      type_fits = four_small e 16 bytes;
      flags_fit = two_small e 20 bytes;
      high_fits = two_small e 22 bytes;
      name_fits = two_small e 24 bytes;
      type_name_fits = two_small e 26 bytes;
      comment_fits = two_small e 28 bytes;
    }
entry_by s at next k u all o _ h = cc

-- ---- all of them
record Back (s : List ℕ) (at n row : ℕ) (t : Bor (List ℕ)) : Type 0 where
  lines : List Line
  are : lines_from n row t ≡ Ok lines
  bytes : upload_of lines ≡ drop at s
  short : lines_checked lines ≡ Ok tt

record All_back (s : List ℕ) (at : ℕ) (text : List ℕ) : Type 0 where
  is_text : IsText text
  back : (t : Bor (List ℕ)) (n row : ℕ) → t.now ≡ text → length text ≤ n → Back s at n row t

checked_none : lines_checked [] ≡ Ok tt
unfolding lines_checked
checked_none = refl

checked_then : (l : Line) (lines : List Line) → cells_checked l.cells.strings ≡ Ok tt → lines_checked lines ≡ Ok tt → lines_checked (l ∷ lines) ≡ Ok tt
unfolding lines_checked
checked_then l lines h k = ap (λ (w : Result Unit Refusal). and_then w (λ _. lines_checked lines)) h ∙ k

some_fuel : (n : ℕ) → 0 < n → (k : ℕ) × (n ≡ suc k)
some_fuel zero h = absurd (omega arith)
some_fuel (suc k) h = (k, refl)

none_back : (s : List ℕ) (at : ℕ) → length s ≤ at → All_back s at []
none_back s at h = record {
  is_text = text_none;
  back = λ t n row e k. record { lines = []; are = lines_none n row t (ap length e); bytes = upload_none ∙ sym (drop_all at s h); short = checked_none };
}

one_back : (s : Bor (List ℕ)) (at next : ℕ) (text more : List ℕ) → at < next → Entry (part s.now at (next - at)) → IsSheetRow (part s.now at (next - at)) text → All_back s.now next more → All_back s.now at (text ++ more)
one_back s at next text more lt i r b = record {
  is_text = text_both text more (text_row (part s.now at (next - at)) text i r) b.is_text;
  back = λ t n row e k.
      let p = row_read (part s.now at (next - at)) text more t i r e in
      let c = line_parts t p.line p.is in
      let short = cells_shorter t p.line.cells c.cells in
      let f = some_fuel n (omega (arith, short, k, ap length e)) in
      let q = b.back p.line.cells.strings.rest f.0 (row + 1) p.rest (omega (arith, short, k, ap length e, ap length p.rest, f.1)) in
      let there : at + (next - at) ≡ next = omega (arith, lt) in
      record {
        lines = p.line ∷ q.lines;
        are = ap (λ (m : ℕ). lines_from m row t) f.1 ∙ line_then f.0 row t p.line (omega (arith, short)) p.is ∙ ap (λ (w : Result (List Line) Refusal). and_then w (λ lines. Ok (p.line ∷ lines))) q.are;
        bytes = upload_then p.line q.lines ∙ ap₂ (λ (x y : List ℕ). x ++ y) p.bytes q.bytes
            ∙ ap (λ (m : ℕ). part s.now at (next - at) ++ drop m s.now) (sym there) ∙ sym (drop_part s.now at (next - at));
        short = checked_then p.line q.lines p.fits q.short;
      };
}

all_back : (s : Bor (List ℕ)) → All (λ b. b < 256) s.now → {k at : ℕ} {w : Result (List ℕ) Refusal} → Rows s k at w → (text : List ℕ) → w ≡ Ok text → All_back s.now at text
all_back s all (done {k} {at} h) text e = let same : [] ≡ text = cc in subst (All_back s.now at) same (none_back s.now at h)
all_back s all (sheet_row {k} {at} {next} {r} {text = own_text} {more} lt step adm is rest) text e =
    let o = own_step s at next (Some (Ok r)) step r refl in
    let same : own_text ++ more ≡ text = cc in
    subst (All_back s.now at) same (one_back s at next own_text more lt (entry_by s at next k (Ok tt) all o adm refl) is (all_back s all rest more refl))
all_back s all _ text e = cc

-- ---- the header
plain_cell : (t : List ℕ) → list_any is_special t ≡ false → IsCell t t
plain_cell t h = plain (plain_all t h)

header_row : (y : List ℕ) → IsRow words (codes "group,offset,size,type id,flags,high,name,type,comment\r\n" ++ y) y
header_row y =
    comma (plain_cell (codes "group") refl) (comma (plain_cell (codes "offset") refl) (comma (plain_cell (codes "size") refl)
    (comma (plain_cell (codes "type id") refl) (comma (plain_cell (codes "flags") refl) (comma (plain_cell (codes "high") refl)
    (comma (plain_cell (codes "name") refl) (comma (plain_cell (codes "type") refl) (ended (plain_cell (codes "comment") refl) crlf))))))))

text_all : (s : List ℕ) → list_all (λ b. leb b 127) s ≡ true → IsText s
text_all [] h = text_none
text_all (b ∷ s) h = by (leb b 127) refl h (text_all s)
  where
    by : (c : Bool) → leb b 127 ≡ c → (c && list_all (λ b. leb b 127) s) ≡ true → (list_all (λ b. leb b 127) s ≡ true → IsText s) → IsText (b ∷ s)
    by true e g more = text_one b s (omega (arith, leb-true b 127 e)) (more g)
    by false e g more = cc

header_text : (y : List ℕ) → IsText y → IsText (codes "group,offset,size,type id,flags,high,name,type,comment\r\n" ++ y)
header_text y x = text_both _ y (text_all (codes "group,offset,size,type id,flags,high,name,type,comment\r\n") refl) x

record Below (t : Bor (List ℕ)) (y : List ℕ) : Type 0 where
  rest : Bor (List ℕ)
  is : behind_header t ≡ Ok rest
  rest_is : rest.now ≡ y

header_read : (t : Bor (List ℕ)) (y : List ℕ) → t.now ≡ codes "group,offset,size,type id,flags,high,name,type,comment\r\n" ++ y → Below t y
unfolding behind_header
header_read t y h =
    let p = rows_meant.only t words y refl (subst (λ (l : List ℕ). IsRow words l y) (sym h) (header_row y)) in
    let g = words_header p.0 p.2 in
    record {
      rest = p.0.strings.rest;
      is = ap (λ (o : Option Cells). ok_or (if_some o (λ c. if is_header c then Some c.strings.rest else None)) (BadSheet 1 0)) p.1
          ∙ ap (λ (b : Bool). ok_or (if b then Some p.0.strings.rest else None) (BadSheet 1 0)) g;
      rest_is = p.3;
    }

-- ---- there and back
sized : (lines : List Line) → lines_checked lines ≡ Ok tt → length (upload_of lines) ≤ limit → size_of lines ≡ Ok (length (upload_of lines))
unfolding size_of
sized lines h k =
    let same : told (length (upload_of lines)) ≡ length (upload_of lines) = omega (arith, k) in
    ap (λ (w : Result Unit Refusal). and_then w (λ _. Ok (told (length (upload_of lines))))) h ∙ ap (λ (n : ℕ). Ok n) same

imported : (t : Bor (List ℕ)) (lines : List Line) (bytes : List ℕ) → lines_of t ≡ Ok lines → encoded_from 0 t.now ≡ Ok bytes → lines_checked lines ≡ Ok tt → length (upload_of lines) ≤ limit
    → importing t ≡ Ok (upload_of lines)
unfolding importing
imported t lines bytes h e c l =
    ap (λ (w : Result (List Line) Refusal). and_then w (λ lines. and_then (encoded_from 0 t.now) (λ _. and_then (size_of lines) (λ size. and_then (size_checked size) (λ _. Ok (upload_of lines)))))) h
    ∙ ap (λ (w : Result (List ℕ) Refusal). and_then w (λ _. and_then (size_of lines) (λ size. and_then (size_checked size) (λ _. Ok (upload_of lines))))) e
    ∙ ap (λ (w : Result ℕ Refusal). and_then w (λ size. and_then (size_checked size) (λ _. Ok (upload_of lines)))) (sized lines c l)
    ∙ ap (λ (b : Bool). and_then (if b then Err (TooLarge (length (upload_of lines))) else Ok tt) (λ _. Ok (upload_of lines))) (le-ltb limit (length (upload_of lines)) l)

lines_there : (t rest : Bor (List ℕ)) (lines : List Line) → behind_header t ≡ Ok rest → lines_from (length rest.now) 2 rest ≡ Ok lines → lines_of t ≡ Ok lines
unfolding lines_of
lines_there t rest lines h k = ap (λ (w : Result (Bor (List ℕ)) Refusal). and_then w (λ r. lines_from (length r.now) 2 r)) h ∙ k

within : (s : Bor (List ℕ)) (text : List ℕ) → exporting s ≡ Ok text → length s.now ≤ limit
within s text h = by (ltb limit (length s.now)) refl
  where
    by : (b : Bool) → ltb limit (length s.now) ≡ b → length s.now ≤ limit
    by true e = let f = sym ((exports_meant s).large (ltb-true limit (length s.now) e)) ∙ h in cc
    by false e = ltb-false limit (length s.now) e

pub sheets_come_back : SheetsComeBack
sheets_come_back s t all h =
    let w = (exports_meant s).written t.now h in
    let b = all_back s all w.2 w.0 refl in
    let p = header_read t w.0 w.1 in
    let q = b.back p.rest (length p.rest.now) 2 p.rest_is (omega (arith, ap length p.rest_is)) in
    let x = subst IsText (sym w.1) (header_text w.0 b.is_text) in
    let text : encoded_from 0 t.now ≡ Ok x.bytes = ap (encoded_from 0) x.is ∙ encoded_decoded x.bytes x.are in
    let whole : upload_of q.lines ≡ s.now = q.bytes in
    imported t q.lines x.bytes (lines_there t p.rest q.lines p.is q.are) text q.short (omega (arith, ap length whole, within s t.now h))
    ∙ ap (λ (l : List ℕ). Ok l) whole

-- How long the upload of some rows is, by how much they are.
use Rattle.std.proofs.Common.{ℕ, ◌+◌, ◌-◌, ◌*◌, ◌≤◌, ◌≡◌, refl, sym, ap, ◌∙◌, Bool, List, ◌∷◌, length, length-append, arith}
use Rattle.std.specs.Prelude.{Result, Ok, Err, max, if◌then◌else◌}
use Rattle.std.specs.Borrow.{Bor}
use borrow.Author.Tests.{le-ltb}
use Rattle.part.specs.Outcome.{and_then}
use Rattle.refusal.specs.declared.Refusal.{Refusal}
use Rattle.refusal.specs.declared.Refusal.TheVariants.{TooLong}
use Rattle.writing.specs.Checks.{count_checked}
use Rattle.text.specs.Text.{encoded_from, counted}
use Rattle.sheet_rows.specs.declared.cells.Three.{Three}
use Rattle.sheet_rows.specs.declared.extent.Extent.{Extent}
use Rattle.sheet_rows.specs.Rows.{Line, lines_of}
use Rattle.sheet_rows.specs.Extent.{text_length, row_extent, joined, extent_of}
use Rattle.sheet_rows.specs.Meant.{IsRow, texts_of}
use Rattle.sheet_rows.specs.SheetMeant.{words, HasNumbers, AreLines, none, row}
use Rattle.sheet_rows.proofs.SheetRead.{sheets_meant}
use Rattle.sheet_rows.proofs.Quotes.{row_one, extent_none, extent_then}
use Rattle.sheet_import.specs.Strings.{string_of, IsText, IsCellText, AreStrings}
use Rattle.sheet_import.specs.Import.{entry_of, upload_of, cells_checked, lines_checked}
use Rattle.sheet_import.proofs.StringsRead.{measured}
use Rattle.sheet_import.proofs.CellTexts.{row_text, line_texts}
use Rattle.sheet_import.proofs.Followers.{follows, followers, followers_none, decoded_long, counted_long, number_none, among, row_same}
use Rattle.sheet_import.proofs.Sizes.{entry_long, upload_none, upload_then, checked_none, checked_then, third}

-- ---- a string
pub cell_long : (t : List ℕ) → IsCellText t → length (string_of t) + followers t ≡ text_length t
unfolding text_length
cell_long t c =
    let m = measured t c in
    let is = m.text in
    omega (arith, m.long, ap length is, ap followers is, decoded_long m.bytes m.are)

-- what is counted of its text, told by its length
pub cell_counted : (t : List ℕ) → IsCellText t → (n : ℕ) → Ok n ≡ counted 0 (encoded_from 0 t) → n + followers t ≡ length t
cell_counted t c n e = let m = measured t c in counted_long t n (record { bytes = m.bytes; are = m.are; is = m.text }) (sym e)

count_good : (n : ℕ) → n ≤ 65535 → count_checked n ≡ Ok tt
count_good n h = ap (λ (b : Bool). if b then Err (TooLong 65535 n) else Ok tt) (le-ltb 65535 n h)

-- those of a row, whose texts are within its extent
row_short : (c : Three) → AreStrings c → (row_extent c).longest ≤ 65535 → cells_checked c ≡ Ok tt
unfolding row_extent
row_short c s h = third c (Ok tt)
    (count_good (length (string_of c.first.now)) (omega (arith, h, cell_long c.first.now s.name)))
    (count_good (length (string_of c.second.now)) (omega (arith, h, cell_long c.second.now s.type_name)))
    (count_good (length (string_of c.third.now)) (omega (arith, h, cell_long c.third.now s.comment)))

row_bytes : (c : Three) → AreStrings c
    → length (string_of c.first.now) + length (string_of c.second.now) + length (string_of c.third.now) + (followers c.first.now + followers c.second.now + followers c.third.now) ≡ (row_extent c).bytes
unfolding row_extent
row_bytes c s = omega (arith, cell_long c.first.now s.name, cell_long c.second.now s.type_name, cell_long c.third.now s.comment)

-- the numbers of a row have none
numbers_none : (l : Line) → HasNumbers l.cells l.numbers → among (texts_of l.cells) ≡ followers l.cells.strings.first.now + followers l.cells.strings.second.now + followers l.cells.strings.third.now
numbers_none l h =
    omega (
      arith,
      number_none h.index_group.fits h.index_group.number,
      number_none h.index_offset.fits h.index_offset.number,
      number_none h.size.fits h.size.number,
      number_none h.data_type_id.fits h.data_type_id.number,
      number_none (omega (arith, h.flags.value.fits)) h.flags.value.number,
      number_none (omega (arith, h.high.fits)) h.high.number,
    )

-- ---- rows
pub record Bulk (s : List ℕ) (lines : List Line) : Type 0 where
  pub strings : ℕ
  pub long : length (upload_of lines) ≡ 33 * (extent_of lines).rows + strings
  pub bytes : strings + followers s ≡ (extent_of lines).bytes
  pub short : (extent_of lines).longest ≤ 65535 → lines_checked lines ≡ Ok tt

checked_on : (l : Line) (lines : List Line) → cells_checked l.cells.strings ≡ Ok tt → lines_checked (l ∷ lines) ≡ lines_checked lines
checked_on l lines h = checked_then l lines ∙ ap (λ (w : Result Unit Refusal). and_then w (λ _. lines_checked lines)) h

bulk_then : {s rest : List ℕ} (l : Line) (lines : List Line) → IsRow (texts_of l.cells) s rest → HasNumbers l.cells l.numbers → AreStrings l.cells.strings → Bulk rest lines → Bulk s (l ∷ lines)
bulk_then {s} {rest} l lines r h t b =
    let all : extent_of (l ∷ lines) ≡ joined (row_extent l.cells.strings) (extent_of lines) = extent_then l lines in
    let rows : (extent_of (l ∷ lines)).rows ≡ (row_extent l.cells.strings).rows + (extent_of lines).rows = ap (λ (e : Extent). e.rows) all in
    let bytes : (extent_of (l ∷ lines)).bytes ≡ (row_extent l.cells.strings).bytes + (extent_of lines).bytes = ap (λ (e : Extent). e.bytes) all in
    let longest : (extent_of (l ∷ lines)).longest ≡ max (row_extent l.cells.strings).longest (extent_of lines).longest = ap (λ (e : Extent). e.longest) all in
    let own : ℕ = length (string_of l.cells.strings.first.now) + length (string_of l.cells.strings.second.now) + length (string_of l.cells.strings.third.now) in
    record {
      strings = own + b.strings;
      long = omega (
        arith,
        ap length (upload_then l lines),
        length-append (entry_of l.numbers l.cells.strings) (upload_of lines),
        entry_long l.numbers l.cells.strings,
        b.long,
        rows,
        row_one l.cells.strings,
      );
      bytes = omega (arith, row_same r, numbers_none l h, row_bytes l.cells.strings t, b.bytes, bytes);
      short = λ f. checked_on l lines (row_short l.cells.strings t (omega (arith, longest, f))) ∙ b.short (omega (arith, longest, f));
    }

bulk : {s : List ℕ} {lines : List Line} → AreLines s lines → IsText s → Bulk s lines
bulk none x = record {
  strings = 0;
  long = omega (arith, ap length upload_none, ap (λ (e : Extent). e.rows) extent_none);
  bytes = omega (arith, followers_none, ap (λ (e : Extent). e.bytes) extent_none);
  short = λ _. checked_none;
}
bulk (row {s} {rest} {l} {lines} r h a) x =
    let t = line_texts l.cells r x in
    bulk_then l lines r h t.0 (bulk a t.1)

-- ---- a sheet
pub record Weighed (lines : List Line) (more : ℕ) : Type 0 where
  pub few : more ≤ (extent_of lines).bytes
  pub long : length (upload_of lines) ≡ 33 * (extent_of lines).rows + ((extent_of lines).bytes - more)
  pub short : (extent_of lines).longest ≤ 65535 → lines_checked lines ≡ Ok tt

words_none : among words ≡ 0
unfolding followers follows
words_none = refl

pub weighed : (s : Bor (List ℕ)) (lines : List Line) (n : ℕ) → lines_of s ≡ Ok lines → IsText s.now → counted 0 (encoded_from 0 s.now) ≡ Ok n → Weighed lines (length s.now - n)
weighed s lines n h x e =
    let g = sheets_meant.good s lines h in
    let t = (row_text g.1 x).rest_is in
    let b = bulk g.2 t in
    let more : length s.now - n ≡ followers g.0 = omega (arith, counted_long s.now n x e, row_same g.1, words_none) in
    record { few = omega (arith, more, b.bytes); long = omega (arith, more, b.long, b.bytes); short = b.short }

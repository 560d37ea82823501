-- The sheet of an upload that was imported has the rows of the sheet that it was made of.
use Rattle.std.proofs.Common.{ℕ, ◌+◌, ◌-◌, ◌<◌, ◌≤◌, ◌≡◌, refl, sym, ap, ap₂, subst, ◌∙◌, List, [], ◌∷◌, ◌++◌, length, take, drop, get_or, length-append, length-drop, arith}
use lib.Seq.{drop-append_seam, take-append_seam, drop-drop}
use Rattle.std.specs.Prelude.{Option, Some, Result, Ok, Err, codes}
use Rattle.std.specs.List.{All}
use Rattle.std.specs.Borrow.{Bor}
use Rattle.std.proofs.lemmas.List.{get_or-drop}
use Rattle.le.specs.Le.{le4, part}
use Rattle.part.specs.Slice as slice
use Rattle.refusal.specs.Refusal.{limit}
use Rattle.refusal.specs.declared.Mode.TheVariants.{Present}
use Rattle.refusal.specs.declared.Refusal.{Refusal}
use Rattle.walk.specs.Steps.{IsStep, ended as step_ended, large, short, beyond, below as step_below, own as step_own}
use Rattle.symbol.specs.declared.AdsSymbolInfo.{AdsSymbolInfo}
use Rattle.symbol.specs.Symbol.{symbol_of}
use Rattle.sheet.specs.CellsMeant.{IsCell, IsRow}
use Rattle.sheet.specs.Export.{exporting}
use Rattle.sheet.specs.ExportMeant.{IsAdmitted, own, Rows, done, zero, refused, barred, row, later}
use Rattle.sheet.proofs.Meant.{cells_meant}
use Rattle.sheet.proofs.Exports.{exports_meant}
use Rattle.sheet_rows.specs.Rows.{Line, lines_of}
use Rattle.sheet_rows.specs.SheetMeant.{HasNumbers, AreLines, none as no_lines, row as line_row}
use Rattle.sheet_rows.proofs.SheetRead.{sheets_meant}
use Rattle.sheet_import.specs.Import.{upload_of, importing}
use Rattle.sheet_import.specs.ImportMeant.{Fit, AllFit, none as none_fit, row as row_fits, IsImport, rows as import_rows, text as import_text, long as import_long, large as import_large, written as import_written}
use Rattle.sheet_import.proofs.Sizes.{upload_none, upload_then}
use Rattle.sheet_import.proofs.Meaning.{imports_meant}
use Rattle.sheets_back.specs.Again.{AreAgain, none as none_again, row as row_again, HasSheet, SheetsAgain}
use Rattle.sheets_back.proofs.Kept as kept
use Rattle.sheets_back.proofs.Trip.{own_step, sheets_come_back}

-- rows whose entries are an upload's
pub data Good : List Line → Type 0 where
  none : Good []
  line : {l : Line} {lines : List Line} → HasNumbers l.cells l.numbers → Fit l.cells → Good lines → Good (l ∷ lines)

pub good : {s : List ℕ} {lines : List Line} → AreLines s lines → AllFit lines → Good lines
good no_lines none_fit = none
good (line_row r n a) (row_fits f b) = line n f (good a b)

-- ---- an entry that stands at a place
record Stands (s : List ℕ) (at : ℕ) (e rest : List ℕ) : Type 0 where
  is : drop at s ≡ e ++ rest
  some : 33 ≤ length e
  claims : le4 (e ++ rest) 0 ≡ length e

module _ (s : Bor (List ℕ)) (at : ℕ) (e rest : List ℕ) (h : Stands s.now at e rest) (within : length s.now ≤ limit) where
  left : length s.now - at ≡ length e + length rest
  left = sym (length-drop at s.now) ∙ ap length h.is ∙ length-append e rest

  claim : le4 s.now at ≡ length e
  unfolding le4
  claim =
      let z : at + 0 ≡ at = omega arith in
      let a = ap (λ (l : List ℕ). get_or l 0 0) (sym h.is) ∙ get_or-drop at s.now 0 0 ∙ ap (λ (k : ℕ). get_or s.now k 0) z in
      let b = ap (λ (l : List ℕ). get_or l 1 0) (sym h.is) ∙ get_or-drop at s.now 1 0 in
      let c = ap (λ (l : List ℕ). get_or l 2 0) (sym h.is) ∙ get_or-drop at s.now 2 0 in
      let d = ap (λ (l : List ℕ). get_or l 3 0) (sym h.is) ∙ get_or-drop at s.now 3 0 in
      omega (arith, a, b, c, d, h.claims)

  own_is : part s.now at (length e) ≡ e
  unfolding part
  own_is = ap (take (length e)) h.is ∙ take-append_seam e rest

  read_is : (slice.part s at (le4 s.now at)).now ≡ e
  unfolding part
  read_is = ap (λ (n : ℕ). take n (drop at s.now)) claim ∙ own_is

  rest_is : drop (at + length e) s.now ≡ rest
  rest_is = sym (drop-drop (length e) at s.now) ∙ ap (drop (length e)) h.is ∙ drop-append_seam e rest

  -- a step there reads it
  step : {answer : Option (Result AdsSymbolInfo Refusal)} {next : ℕ} → IsStep 30 (symbol_of Present) s at answer next
      → (next ≡ at + length e) × (answer ≡ Some (symbol_of Present (slice.part s at (le4 s.now at))))
  step (step_ended a) = absurd (omega (arith, left, h.some, a))
  step (large a b) = absurd (omega (arith, within, b))
  step (short a b c) = absurd (omega (arith, left, h.some, c))
  step (beyond a b c d) = absurd (omega (arith, left, claim, d))
  step (step_below a b c d g) = absurd (omega (arith, claim, h.some, g))
  step (step_own a b c d g) = (omega (arith, claim), refl)

  there : (next : ℕ) → next ≡ at + length e → own s.now at next ≡ e
  there next n = let k : next - at ≡ length e = omega (arith, n) in ap (part s.now at) k ∙ own_is

  behind : (next : ℕ) → next ≡ at + length e → drop next s.now ≡ rest
  behind next n = ap (λ (k : ℕ). drop k s.now) n ∙ rest_is

-- a step that answers was before the end
inside : {s : Bor (List ℕ)} {at next : ℕ} {answer : Option (Result AdsSymbolInfo Refusal)} {w : Result AdsSymbolInfo Refusal} → IsStep 30 (symbol_of Present) s at answer next → answer ≡ Some w → at < length s.now
inside (step_ended a) e = cc
inside (large a b) e = a
inside (short a b c) e = a
inside (beyond a b c d) e = a
inside (step_below a b c d g) e = a
inside (step_own a b c d g) e = a

-- that of a row
stands : (s : List ℕ) (at : ℕ) (l : Line) (lines : List Line) (h : HasNumbers l.cells l.numbers) (f : Fit l.cells) → drop at s ≡ upload_of (l ∷ lines) → Stands s at (kept.e l h f) (upload_of lines)
stands s at l lines h f d = record {
  is = d ∙ upload_then l lines ∙ ap (λ (x : List ℕ). x ++ upload_of lines) (kept.entry_is l h f);
  some = omega (arith, kept.entry_size l h f);
  claims = kept.claims l h f (upload_of lines);
}

-- ---- row after row
record Ends (lines : List Line) (w : Result (List ℕ) Refusal) : Type 0 where
  text : List ℕ
  is : w ≡ Ok text
  again : AreAgain lines text

module _ (s : Bor (List ℕ)) (within : length s.now ≤ limit) where
  -- where the upload ends, the rows do
  at_end : (at : ℕ) (lines : List Line) → Good lines → drop at s.now ≡ upload_of lines → length s.now ≤ at → Ends lines (Ok [])
  at_end at _ none d k = record { text = []; is = refl; again = none_again }
  at_end at _ (line {l} {lines} n f g) d k =
      let x = stands s.now at l lines n f d in
      absurd (omega (arith, x.some, ap length x.is, length-append (kept.e l n f) (upload_of lines), length-drop at s.now, k))

  no_rows : (at : ℕ) → drop at s.now ≡ upload_of [] → at < length s.now → ⊥
  no_rows at d k = omega (arith, ap length (d ∙ upload_none), length-drop at s.now, k)

  walk : {k at : ℕ} {w : Result (List ℕ) Refusal} → Rows s k at w → (lines : List Line) → Good lines → drop at s.now ≡ upload_of lines → Ends lines w
  walk (done {k} {at} h) lines g d = at_end at lines g d h
  walk (zero {k} {at} lt step_at) _ none d = absurd (no_rows at d lt)
  walk (zero {k} {at} lt step_at) _ (line {l} {lines} n f g) d =
      let x = stands s.now at l lines n f d in
      let p = step s at _ _ x within step_at in
      absurd (omega (arith, p.0, x.some))
  walk (refused {k} {at} {next} {why} lt step_at) _ none d = absurd (no_rows at d (inside step_at refl))
  walk (refused {k} {at} {next} {why} lt step_at) _ (line {l} {lines} n f g) d =
      let x = stands s.now at l lines n f d in
      let p = step s at _ _ x within step_at in
      let r = p.1 in
      let q = kept.read l n f (slice.part s at (le4 s.now at)) (read_is s at _ _ x within) in
      cc
  walk (barred {k} {at} {next} {r} {why} lt step_at adm) _ none d = absurd (no_rows at d (inside step_at refl))
  walk (barred {k} {at} {next} {r} {why} lt step_at adm) _ (line {l} {lines} n f g) d =
      let x = stands s.now at l lines n f d in
      let p = step s at _ _ x within step_at in
      absurd (kept.admitted l n f why (subst (λ (e : List ℕ). IsAdmitted e k (Err why)) (there s at _ _ x within next p.0) adm) refl)
  walk (row {k} {at} {next} {r} {text} {more = rest} lt step_at adm is_row rows) _ none d = absurd (no_rows at d (inside step_at refl))
  walk (row {k} {at} {next} {r} {text} {more = rest} lt step_at adm is_row rows) _ (line {l} {lines} n f g) d =
      let x = stands s.now at l lines n f d in
      let p = step s at _ _ x within step_at in
      let q = walk rows lines g (behind s at _ _ x within next p.0) in
      let same : rest ≡ q.text = let i = q.is in cc in
      record {
        text = text ++ rest;
        is = refl;
        again = row_again (kept.again l n f text (subst (λ (e : List ℕ). IsRow e text) (there s at _ _ x within next p.0) is_row)) (subst (AreAgain lines) (sym same) q.again);
      }
  walk (later {k} {at} {next} {r} {why} lt step_at adm rows) _ none d = absurd (no_rows at d (inside step_at refl))
  walk (later {k} {at} {next} {r} {why} lt step_at adm rows) _ (line {l} {lines} n f g) d =
      let x = stands s.now at l lines n f d in
      let p = step s at _ _ x within step_at in
      let q = walk rows lines g (behind s at _ _ x within next p.0) in
      let i = q.is in
      cc

-- ---- an entry has one row, wherever it lies
cell_one : (s a b : List ℕ) → IsCell s a → IsCell s b → a ≡ b
cell_one s a b p q = sym ((cells_meant.cells s a).1 p) ∙ (cells_meant.cells s b).1 q

row_one : (e a b : List ℕ) → IsRow e a → IsRow e b → a ≡ b
row_one e a b p q =
    let n = cell_one _ _ _ p.name_cell q.name_cell in
    let t = cell_one _ _ _ p.type_cell q.type_cell in
    let k = cell_one _ _ _ p.comment_cell q.comment_cell in
    p.is ∙ simp (n, t, k) (sym q.is)

next_is : (s : Bor (List ℕ)) (at next : ℕ) (r : AdsSymbolInfo) → IsStep 30 (symbol_of Present) s at (Some (Ok r)) next → at + le4 s.now at ≡ next
next_is s at next r i = (own_step s at next (Some (Ok r)) i r refl).claims

alike : (s t : Bor (List ℕ)) → s.now ≡ t.now → {k at : ℕ} {w : Result (List ℕ) Refusal} → Rows s k at w → {i there : ℕ} {v : Result (List ℕ) Refusal} → Rows t i there v → at ≡ there
    → (a b : List ℕ) → w ≡ Ok a → v ≡ Ok b → a ≡ b
alike s t same (done h) (done g) p a b e f = cc
alike s t same (done h) (row lt i adm is m) p a b e f = absurd (omega (arith, h, inside i refl, ap length same, p))
alike s t same (row lt i adm is m) (done g) p a b e f = absurd (omega (arith, g, inside i refl, ap length same, p))
alike s t same (row {k} {at} {next} {r} {text} {more} lt i adm is m) (row {at = at'} {next = next'} {r = r'} {text = text'} {more = more'} lt' i' adm' is' m') p a b e f =
    let claim : le4 s.now at ≡ le4 t.now at' = ap₂ (λ (l : List ℕ) (n : ℕ). le4 l n) same p in
    let on : next ≡ next' = omega (arith, next_is s at next r i, next_is t at' next' r' i', claim, p) in
    let entry : own s.now at next ≡ own t.now at' next' = ap₂ (λ (l : List ℕ) (n : ℕ). part l n (next - n)) same p ∙ ap (λ (n : ℕ). part t.now at' (n - at')) on in
    let one : text ≡ text' = row_one _ _ _ (subst (λ (l : List ℕ). IsRow l text) entry is) is' in
    let rest : more ≡ more' = alike s t same m m' on more more' refl refl in
    let x : text ++ more ≡ a = cc in
    let y : text' ++ more' ≡ b = cc in
    sym x ∙ ap₂ (λ (g h : List ℕ). g ++ h) one rest ∙ y
alike s t same _ _ p a b e f = cc

-- ---- both
module _ (sheet upload : Bor (List ℕ)) where
  found : (lines : List Line) → lines_of sheet ≡ Ok lines → Good lines → upload_of lines ≡ upload.now → length upload.now ≤ limit → HasSheet sheet upload
  found lines read g is within = by (exporting upload) refl
    where
      by : (w : Result (List ℕ) Refusal) → exporting upload ≡ w → HasSheet sheet upload
      by (Ok text) e =
          let w = (exports_meant upload).written text e in
          let q = walk upload within w.2 lines g (sym is) in
          let same : w.0 ≡ q.text = let i = q.is in cc in
          record { lines = lines; read = read; rows = w.0; again = subst (AreAgain lines) (sym same) q.again; written = e ∙ ap (λ (l : List ℕ). Ok l) w.1 }
      by (Err why) e =
          let q = walk upload within ((exports_meant upload).refusal why within e) lines g (sym is) in
          let i = q.is in
          cc

  made : {w : Result (List ℕ) Refusal} → IsImport sheet w → w ≡ Ok upload.now → HasSheet sheet upload
  made (import_rows h) e = cc
  made (import_text h f) e = cc
  made (import_long h x f) e = cc
  made (import_large h x f k) e = cc
  made (import_written {lines} h x f k) e =
      let is : upload_of lines ≡ upload.now = cc in
      found lines h (good (sheets_meant.good sheet lines h).2 f) is (omega (arith, k, ap length is))

again : (sheet upload : Bor (List ℕ)) → importing sheet ≡ Ok upload.now → HasSheet sheet upload
again sheet upload h = made sheet upload ((imports_meant sheet (Ok upload.now)).0 h) refl

exported : (first sheet upload : Bor (List ℕ)) → All (λ b. b < 256) first.now → exporting first ≡ Ok sheet.now → importing sheet ≡ Ok upload.now → exporting upload ≡ Ok sheet.now
exported first sheet upload all h k =
    let a = (exports_meant first).written sheet.now h in
    let g = again sheet upload k in
    let b = (exports_meant upload).written _ g.written in
    let back = sheets_come_back first sheet all h in
    let same : first.now ≡ upload.now = let e = sym back ∙ k in cc in
    let rows : a.0 ≡ b.0 = alike first upload same a.2 b.2 refl a.0 b.0 refl refl in
    g.written ∙ ap (λ (l : List ℕ). Ok l) (b.1 ∙ ap (λ (l : List ℕ). codes "group,offset,size,type id,flags,high,name,type,comment\r\n" ++ l) (sym rows) ∙ sym a.1)

pub sheets_again : SheetsAgain
sheets_again = record { imported = again; exported = exported }

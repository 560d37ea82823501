-- The entries of a sheet's rows, as the symbol writer gives them.
use Rattle.std.proofs.Common.{ℕ, ◌≡◌, refl, sym, ap, subst, ◌∙◌, List, [], ◌∷◌, ◌++◌}
use Rattle.std.specs.Prelude.{Result, Ok}
use Rattle.std.specs.Borrow.{Bor}
use Rattle.refusal.specs.declared.Refusal.{Refusal}
use Rattle.sheet_rows.specs.Rows.{Line, lines_of}
use Rattle.sheet_rows.proofs.SheetRead.{sheets_meant}
use Rattle.sheet_import.specs.Import.{upload_of}
use Rattle.sheet_import.specs.ImportMeant.{IsImport, rows, text, long, large, written}
use Rattle.sheet_import.proofs.Sizes.{upload_none, upload_then}
use Rattle.sheet_import.proofs.Meaning.{imports_meant}
use Rattle.sheets_back.specs.Entries.{AreWritten, none, row, SheetsWritten}
use Rattle.sheets_back.proofs.Kept as kept
use Rattle.sheets_back.proofs.Again.{Good, none as none_good, line, good}

all_written : {lines : List Line} → Good lines → AreWritten lines (upload_of lines)
all_written none_good = subst (AreWritten []) (sym upload_none) none
all_written (line {l} {lines} h f g) =
    let parts : upload_of (l ∷ lines) ≡ kept.e l h f ++ upload_of lines = upload_then l lines ∙ ap (λ (x : List ℕ). x ++ upload_of lines) (kept.entry_is l h f) in
    subst (AreWritten (l ∷ lines)) (sym parts) (row (kept.is_of l h f) (kept.written l h f) (all_written g))

made : (sheet : Bor (List ℕ)) {w : Result (List ℕ) Refusal} (upload : List ℕ) → IsImport sheet w → w ≡ Ok upload → (lines : List Line) × (lines_of sheet ≡ Ok lines) × AreWritten lines upload
made sheet upload (rows h) e = cc
made sheet upload (text h f) e = cc
made sheet upload (long h x f) e = cc
made sheet upload (large h x f k) e = cc
made sheet upload (written {lines} h x f k) e =
    let is : upload_of lines ≡ upload = cc in
    (lines, h, subst (AreWritten lines) is (all_written (good (sheets_meant.good sheet lines h).2 f)))

pub sheets_written : SheetsWritten
sheets_written sheet upload h = made sheet upload ((imports_meant sheet (Ok upload)).0 h) refl

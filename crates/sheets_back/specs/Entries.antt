-- docs/FORMAT.md, "Sheet": the upload of a sheet is what the symbol writer gives for its rows.
use Rattle.std.specs.Prelude.{ℕ, ◌≡◌, List, [], ◌∷◌, ◌++◌, Ok}
use Rattle.std.specs.Borrow.{Bor}
use Rattle.symbol.specs.declared.writer.NewSymbol.{NewSymbol}
use Rattle.symbol.specs.Writing.{symbol_written}
use Rattle.sheet_rows.specs.Rows.{Line, lines_of}
use Rattle.sheet_import.specs.ImportMeant.{Strings}
use Rattle.sheet_import.specs.Import.{importing}

-- a symbol of a row's numbers and strings. The row's flags name no section, and the writer refuses one that they do not name
pub record IsOf (l : Line) (n : NewSymbol) : Type 0 where
  pub index_group : n.index_group.0 ≡ l.numbers.index_group
  pub index_offset : n.index_offset.0 ≡ l.numbers.index_offset
  pub size : n.size ≡ l.numbers.size
  pub data_type_id : n.data_type_id ≡ l.numbers.data_type_id
  pub flags : n.flags.0 ≡ l.numbers.flags
  pub high : n.high ≡ l.numbers.high
  pub strings : Strings l.cells
  pub name : n.name.now ≡ strings.name
  pub type_name : n.type_name.now ≡ strings.type_name
  pub comment : n.comment.now ≡ strings.comment

-- row after row
pub data AreWritten : List Line → List ℕ → Type 0 where
  none : AreWritten [] []
  row : {l : Line} {lines : List Line} {n : NewSymbol} {entry more : List ℕ} → IsOf l n → symbol_written n ≡ Ok entry → AreWritten lines more → AreWritten (l ∷ lines) (entry ++ more)

abbrev pub SheetsWritten : Type 0
SheetsWritten = (sheet : Bor (List ℕ)) (upload : List ℕ) → importing sheet ≡ Ok upload → (lines : List Line) × (lines_of sheet ≡ Ok lines) × AreWritten lines upload

-- docs/FORMAT.md, "Sheet": the sheet of an upload that was imported.
use Rattle.std.specs.Prelude.{ℕ, ◌<◌, ◌≡◌, List, [], ◌∷◌, ◌++◌, Ok, codes}
use Rattle.std.specs.List.{All}
use Rattle.std.specs.Borrow.{Bor}
use Rattle.sheet.specs.CellsMeant.{IsCell, number}
use Rattle.sheet.specs.Export.{exporting}
use Rattle.sheet_rows.specs.Rows.{Line, lines_of}
use Rattle.sheet_import.specs.ImportMeant.{Strings}
use Rattle.sheet_import.specs.Import.{importing}

-- what is written of a row that was read: its numbers without leading zeros, and the strings whose texts, each quote twice, its cells are
pub record IsAgain (l : Line) (text : List ℕ) : Type 0 where
  pub strings : Strings l.cells
  pub name : List ℕ
  pub type_name : List ℕ
  pub comment : List ℕ
  pub name_cell : IsCell strings.name name
  pub type_cell : IsCell strings.type_name type_name
  pub comment_cell : IsCell strings.comment comment
  pub is : text ≡ (number l.numbers.index_group ++ (number l.numbers.index_offset ++ (number l.numbers.size ++ (number l.numbers.data_type_id ++ (number l.numbers.flags ++ number l.numbers.high))))) ++ (name ++ (codes "," ++ (type_name ++ (codes "," ++ (comment ++ codes "\r\n")))))

-- row after row
pub data AreAgain : List Line → List ℕ → Type 0 where
  none : AreAgain [] []
  row : {l : Line} {lines : List Line} {text more : List ℕ} → IsAgain l text → AreAgain lines more → AreAgain (l ∷ lines) (text ++ more)

-- an upload that was made of a sheet has a sheet: the header, and the rows of that one
pub record HasSheet (sheet upload : Bor (List ℕ)) : Type 0 where
  pub lines : List Line
  pub read : lines_of sheet ≡ Ok lines
  pub rows : List ℕ
  pub again : AreAgain lines rows
  pub written : exporting upload ≡ Ok (codes "group,offset,size,type id,flags,high,name,type,comment\r\n" ++ rows)

pub record SheetsAgain : Type 0 where
  pub imported : (sheet upload : Bor (List ℕ)) → importing sheet ≡ Ok upload.now → HasSheet sheet upload
  -- a sheet that was exported is that very sheet
  pub exported : (first sheet upload : Bor (List ℕ)) → All (λ b. b < 256) first.now → exporting first ≡ Ok sheet.now → importing sheet ≡ Ok upload.now → exporting upload ≡ Ok sheet.now

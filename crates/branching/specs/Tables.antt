-- docs/FORMAT.md, "The command's text": the tables of `list` and `branch`, line by line and column by column, by the characters.
use Rattle.std.specs.Prelude.{ℕ, ◌<◌, ◌≤◌, ◌≡◌, List, [], ◌∷◌, ◌++◌, codes, decimal, get_or, length, Contains, Ok, Err}
use Rattle.part.specs.Slice.{part}
use Rattle.refusal.specs.Refusal.{limit}
use Rattle.refusal.specs.declared.Refusal.{Refusal}
use Rattle.entry.specs.Walk.{steps}
use Rattle.walk.specs.Pieces.{piece_at}
use Rattle.symbol.specs.declared.AdsSymbolInfo.{AdsSymbolInfo}
use Rattle.symbol.specs.Symbol.{symbol_of}
use Rattle.wording.specs.Wording.{refusal_text}
use Rattle.report.specs.declared.Upload.{Upload}
use Rattle.report.specs.Report.{upload_text}
use Rattle.report.specs.Table.{table_text}
use Rattle.report.specs.Aligned.{Cell, left, right, IsColumn, IsRow, IsSymbolRow, heading_cells, symbol_cells}

-- how many characters a row has in a column
abbrev pub characters : Cell → ℕ
characters (left text) = length text
characters (right text) = length text

abbrev pub characters_in : ℕ → List Cell → ℕ
characters_in k cells = characters (get_or cells k (left []))

-- the line of the entry at a place, and its cells: of an accepted one by its bytes; of a refused one the place alone, and behind two spaces the refusal in words
pub data IsLine (u : Upload) (ws : List ℕ) (at : ℕ) : List Cell → List ℕ → Type 0 where
  accepted : (s : AdsSymbolInfo) (line : List ℕ) → symbol_of u.mode (part u.bytes at s.length) ≡ Ok s → (row : IsSymbolRow ws at (part u.bytes at s.length).now s line)
      → IsLine u ws at (symbol_cells at (part u.bytes at s.length).now s row.name row.type_name) line
  refused : (why : Refusal) (place : List ℕ) → (piece_at (symbol_of u.mode) u.bytes at).answer ≡ Err why → IsColumn (get_or ws 0 0) (right (decimal at)) place
      → IsLine u ws at (right (decimal at) ∷ []) (place ++ (codes "  " ++ (refusal_text why ++ codes "\n")))

-- a line for each of some places, one behind another
pub data AreLines (u : Upload) (ws : List ℕ) : List ℕ → List (List Cell) → List ℕ → Type 0 where
  done : AreLines u ws [] [] []
  next : {at : ℕ} {places : List ℕ} {cells : List Cell} {rows : List (List Cell)} {line rest : List ℕ} → IsLine u ws at cells line → AreLines u ws places rows rest
      → AreLines u ws (at ∷ places) (cells ∷ rows) (line ++ rest)

-- a table: what the upload is, the headings, and a line for the entry at each of some places; no column is wider than the widest of its heading and its cells
pub record IsTable (u : Upload) (places written : List ℕ) : Type 0 where
  pub widths : List ℕ
  pub headings : List ℕ
  pub rows : List (List Cell)
  pub lines : List ℕ
  pub is : written ≡ upload_text u ++ (codes "\n" ++ (headings ++ (codes "\n" ++ lines)))
  pub heading : IsRow widths heading_cells headings
  pub each : AreLines u widths places rows lines
  pub needed : (k : ℕ) → k < length widths → (cells : List Cell) × Contains (heading_cells ∷ rows) cells × (characters_in k cells ≡ get_or widths k 0)

-- `list` writes that of the places at which the steps of the walk begin
abbrev pub ListWritten : Type 0
ListWritten = (u : Upload) → length u.bytes.now ≤ limit → IsTable u (steps u.bytes.now) (table_text u)

-- docs/FORMAT.md, "Sheet": a cell, and the row of an entry, by the bytes.
use Rattle.std.specs.Prelude.{ℕ, ◌+◌, ◌≡◌, ◌↔◌, List, [], ◌∷◌, ◌++◌, Ok, codes, decimal, encode_utf8}
use Rattle.std.specs.List.{All}
use Rattle.std.specs.Borrow.{Bor}
use Rattle.le.specs.Le.{le2, le4, part}
use Rattle.refusal.specs.declared.Mode.TheVariants.{Present}
use Rattle.text.specs.Text.{code_point, decoded}
use Rattle.symbol.specs.declared.AdsSymbolInfo.{AdsSymbolInfo}
use Rattle.symbol.specs.Symbol.{symbol_of}
use Rattle.sheet.specs.Cells.{Row, cell, row_text, sheet_text}
use Rattle.sheet.specs.Export.{row_of}

-- no comma, quote, CR or LF
pub record IsPlain (b : ℕ) : Type 0 where
  pub comma : b ≡ 44 → ⊥
  pub quote : b ≡ 34 → ⊥
  pub return : b ≡ 13 → ⊥
  pub feed : b ≡ 10 → ⊥

-- bytes as text, in which each quote stands twice
pub data Doubled : List ℕ → List ℕ → Type 0 where
  none : Doubled [] []
  quote : {s text : List ℕ} → Doubled s text → Doubled (34 ∷ s) (34 ∷ 34 ∷ text)
  other : {b : ℕ} {s text : List ℕ} → (b ≡ 34 → ⊥) → Doubled s text → Doubled (b ∷ s) (encode_utf8 (code_point b) ++ text)

-- a string of plain bytes is its text; any other stands between quotes
pub data IsCell (s : List ℕ) : List ℕ → Type 0 where
  plain : All IsPlain s → IsCell s (decoded s)
  quoted : {text : List ℕ} → (All IsPlain s → ⊥) → Doubled s text → IsCell s (34 ∷ (text ++ (34 ∷ [])))

-- a number and a comma
abbrev pub number : ℕ → List ℕ
number n = decimal n ++ codes ","

-- the row of an entry: its numbers from their places, then its strings from theirs
pub record IsRow (e text : List ℕ) : Type 0 where
  pub name : List ℕ
  pub type_name : List ℕ
  pub comment : List ℕ
  pub name_cell : IsCell (part e 30 (le2 e 24)) name
  pub type_cell : IsCell (part e (31 + le2 e 24) (le2 e 26)) type_name
  pub comment_cell : IsCell (part e (32 + le2 e 24 + le2 e 26) (le2 e 28)) comment
  pub is : text ≡ (number (le4 e 4) ++ (number (le4 e 8) ++ (number (le4 e 12) ++ (number (le4 e 16) ++ (number (le2 e 20) ++ number (le2 e 22)))))) ++ (name ++ (codes "," ++ (type_name ++ (codes "," ++ (comment ++ codes "\r\n")))))

pub record CellsMeant : Type 0 where
  pub cells : (s text : List ℕ) → (cell s ≡ text) ↔ IsCell s text
  pub rows : (e : Bor (List ℕ)) (r : AdsSymbolInfo) → symbol_of Present e ≡ Ok r → IsRow e.now (row_text (row_of r))
  -- a sheet is its header and, one after another, its rows
  pub header : sheet_text [] ≡ codes "group,offset,size,type id,flags,high,name,type,comment\r\n"
  pub more : (rows : List Row) (row : Row) → sheet_text (rows ++ (row ∷ [])) ≡ sheet_text rows ++ row_text row

-- docs/FORMAT.md, "The command's text": where the cells of a table stand, by the characters of its lines.
use Rattle.std.specs.Prelude.{ℕ, zero, suc, ◌+◌, ◌<◌, ◌≤◌, ◌≡◌, List, [], ◌∷◌, ◌++◌, codes, decimal, encode_utf8_all, get_or, length, map, take, drop, replicate, Contains, Ok, Err}
use Rattle.std.specs.Borrow.{Bor}
use Rattle.le.specs.Le.{le2, le4}
use Rattle.refusal.specs.Refusal.{limit}
use Rattle.refusal.specs.declared.Mode.{Mode}
use Rattle.refusal.specs.declared.Refusal.{Refusal}
use Rattle.text.specs.Text.{code_point}
use Rattle.symbol.specs.Symbol.{symbol_of}
use Rattle.symbol.specs.declared.AdsSymbolInfo.{AdsSymbolInfo}
use Rattle.walk.specs.declared.Piece.{Piece}
use Rattle.wording.specs.Meant.{IsVisible}
use Rattle.wording.specs.Wording.{refusal_text}
use Rattle.report.specs.declared.table.Columns.{Columns}
use Rattle.report.specs.Cells.{hexadecimal}
use Rattle.report.specs.Table.{headings_text, line_text, columns_of}

-- the characters of a cell, and on which side of its column they stand
pub data Cell : Type 0 where
  left : List ℕ → Cell
  right : List ℕ → Cell

-- the characters of a column of a width: those of its cell, and spaces beside them
pub data IsColumn (width : ℕ) : Cell → List ℕ → Type 0 where
  at_left : (text : List ℕ) (gap : ℕ) → length text + gap ≡ width → IsColumn width (left text) (text ++ replicate gap 32)
  at_right : (text : List ℕ) (gap : ℕ) → length text + gap ≡ width → IsColumn width (right text) (replicate gap 32 ++ text)

-- the characters of a row: those of its columns, with two spaces between two of them
pub data IsRow : List ℕ → List Cell → List ℕ → Type 0 where
  last : {w : ℕ} {c : Cell} {t : List ℕ} → IsColumn w c t → IsRow (w ∷ []) (c ∷ []) t
  more : {w : ℕ} {ws : List ℕ} {c : Cell} {cs : List Cell} {t r : List ℕ} → IsColumn w c t → IsRow ws cs r → IsRow (w ∷ ws) (c ∷ cs) (t ++ (32 ∷ 32 ∷ r))

-- behind how many characters a column begins, by the widths of those before it
unfoldable pub begin : List ℕ → ℕ → ℕ
begin ws zero = 0
begin [] (suc k) = 0
begin (w ∷ ws) (suc k) = w + (2 + begin ws k)

-- so in rows of the same widths each column begins at the same character
abbrev pub ColumnsApart : Type 0
ColumnsApart = (ws : List ℕ) (cs : List Cell) (t : List ℕ) → IsRow ws cs t → (k : ℕ) → k < length ws → IsColumn (get_or ws k 0) (get_or cs k (left [])) (take (get_or ws k 0) (drop (begin ws k) t))

abbrev pub widths : Columns → List ℕ
widths c = c.place ∷ c.name ∷ c.type_name ∷ c.size ∷ c.group ∷ c.offset ∷ c.attributes ∷ c.unread ∷ c.high ∷ []

abbrev pub heading_cells : List Cell
heading_cells =
    right (codes "place") ∷ left (codes "name") ∷ left (codes "type") ∷ right (codes "size") ∷ right (codes "group") ∷ right (codes "offset")
    ∷ right (codes "attrs") ∷ right (codes "unread") ∷ right (codes "high") ∷ []

-- the cells of a symbol by the bytes of its entry, with its names in characters
abbrev pub symbol_cells : ℕ → List ℕ → AdsSymbolInfo → List ℕ → List ℕ → List Cell
symbol_cells place e s name type_name =
    right (decimal place) ∷ left name ∷ left type_name ∷ right (decimal (le4 e 12)) ∷ right (hexadecimal (le4 e 4)) ∷ right (hexadecimal (le4 e 8))
    ∷ right (decimal s.attributes.count) ∷ right (decimal (length s.unread.now)) ∷ right (decimal (le2 e 22)) ∷ []

-- a line in UTF-8 is a row of a symbol, its names being those that stand in the entry
pub record IsSymbolRow (ws : List ℕ) (place : ℕ) (e : List ℕ) (s : AdsSymbolInfo) (line : List ℕ) : Type 0 where
  pub name : List ℕ
  pub type_name : List ℕ
  pub row : List ℕ
  pub is_name : IsVisible name (map code_point (take (le2 e 24) (drop 30 e)))
  pub is_type : IsVisible type_name (map code_point (take (le2 e 26) (drop (31 + le2 e 24) e)))
  pub is : line ≡ encode_utf8_all row ++ codes "\n"
  pub cells : IsRow ws (symbol_cells place e s name type_name) row

pub record TablesMeant : Type 0 where
  pub headings : (ps : List (Piece AdsSymbolInfo)) → IsRow (widths (columns_of ps)) heading_cells (headings_text (columns_of ps))
  pub accepted : (ps : List (Piece AdsSymbolInfo)) (p : Piece AdsSymbolInfo) (mode : Mode) (e : Bor (List ℕ)) (s : AdsSymbolInfo)
      → Contains ps p → p.answer ≡ Ok s → symbol_of mode e ≡ Ok s → length e.now ≤ limit
      → IsSymbolRow (widths (columns_of ps)) p.start e.now s (line_text (columns_of ps) p)
  -- of a refused entry the place stands in its column, and behind two spaces the refusal in words
  pub refused : (ps : List (Piece AdsSymbolInfo)) (p : Piece AdsSymbolInfo) (why : Refusal) → Contains ps p → p.answer ≡ Err why
      → (place : List ℕ) × IsColumn (columns_of ps).place (right (decimal p.start)) place × (line_text (columns_of ps) p ≡ place ++ (codes "  " ++ (refusal_text why ++ codes "\n")))
  pub apart : ColumnsApart

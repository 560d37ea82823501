-- docs/FORMAT.md, "The command's text": the table of an upload's entries, a line each.
use Rattle.std.specs.Prelude.{ℕ, ◌+◌, max, true, List, [], ◌∷◌, ◌++◌, length, codes, decimal, Result, Ok, Err}
use Rattle.std.specs.Fmt.{digits}
use Rattle.std.specs.List.{flat_map}
use Rattle.refusal.specs.declared.Refusal.{Refusal}
use Rattle.wording.specs.Text.{shown_width}
use Rattle.symbol.specs.declared.AdsSymbolInfo.{AdsSymbolInfo}
use Rattle.symbol.specs.Symbol.{symbol_of}
use Rattle.walk.specs.declared.Piece.{Piece}
use Rattle.walk.specs.Pieces.{pieces}
use Rattle.report.specs.declared.Upload.{Upload}
use Rattle.report.specs.declared.table.Columns.{Columns}
use Rattle.report.specs.Report.{upload_text}
use Rattle.report.specs.Cells.{at_left, at_right, number_cell, hexadecimal_cell, name_cell, refused_row}

-- the widths of the headings
abbrev pub headings : Columns
headings = record { place = 5; name = 4; type_name = 4; size = 4; group = 5; offset = 6; attributes = 5; unread = 6; high = 4 }

-- those of the cells of a symbol
unfoldable pub widths_of : ℕ → AdsSymbolInfo → Columns
widths_of place s =
    record {
      place = length (decimal place);
      name = shown_width s.name.now;
      type_name = shown_width s.type_name.now;
      size = length (decimal s.size);
      group = length (digits 16 true s.index_group.0) + 2;
      offset = length (digits 16 true s.index_offset.0) + 2;
      attributes = length (decimal s.attributes.count);
      unread = length (decimal (length s.unread.now));
      high = length (decimal s.high);
    }

unfoldable pub widest : Columns → Columns → Columns
widest a b =
    record {
      place = max a.place b.place;
      name = max a.name b.name;
      type_name = max a.type_name b.type_name;
      size = max a.size b.size;
      group = max a.group b.group;
      offset = max a.offset b.offset;
      attributes = max a.attributes b.attributes;
      unread = max a.unread b.unread;
      high = max a.high b.high;
    }

-- wide enough for one more entry: of a refused one the place stands in a column
abbrev pub fitted_by : Columns → ℕ → Result AdsSymbolInfo Refusal → Columns
fitted_by c place (Ok s) = widest c (widths_of place s)
fitted_by c place (Err why) = record c { place = max c.place (length (decimal place)) }

unfoldable pub fitted : Columns → Piece AdsSymbolInfo → Columns
fitted c p = fitted_by c p.start p.answer

unfoldable pub fitted_on : Columns → List (Piece AdsSymbolInfo) → Columns
fitted_on c [] = c
fitted_on c (p ∷ ps) = fitted_on (fitted c p) ps

abbrev pub columns_of : List (Piece AdsSymbolInfo) → Columns
columns_of ps = fitted_on headings ps

unfoldable pub headings_text : Columns → List ℕ
headings_text c =
    at_right c.place 5 (codes "place") ++ (codes "  " ++ (at_left c.name 4 (codes "name") ++ (codes "  " ++ (at_left c.type_name 4 (codes "type")
    ++ (codes "  " ++ (at_right c.size 4 (codes "size") ++ (codes "  " ++ (at_right c.group 5 (codes "group") ++ (codes "  " ++ (at_right c.offset 6 (codes "offset")
    ++ (codes "  " ++ (at_right c.attributes 5 (codes "attrs") ++ (codes "  " ++ (at_right c.unread 6 (codes "unread") ++ (codes "  " ++ at_right c.high 4 (codes "high"))))))))))))))))

-- the cells of a symbol: its place and names, its numbers, and its counts
unfoldable pub names_text : Columns → ℕ → AdsSymbolInfo → List ℕ
names_text c place s = number_cell c.place place ++ (codes "  " ++ (name_cell c.name s.name.now ++ (codes "  " ++ name_cell c.type_name s.type_name.now)))

unfoldable pub numbers_text : Columns → AdsSymbolInfo → List ℕ
numbers_text c s = number_cell c.size s.size ++ (codes "  " ++ (hexadecimal_cell c.group s.index_group.0 ++ (codes "  " ++ hexadecimal_cell c.offset s.index_offset.0)))

unfoldable pub counts_text : Columns → AdsSymbolInfo → List ℕ
counts_text c s = number_cell c.attributes s.attributes.count ++ (codes "  " ++ (number_cell c.unread (length s.unread.now) ++ (codes "  " ++ number_cell c.high s.high)))

unfoldable pub symbol_row : Columns → ℕ → AdsSymbolInfo → List ℕ
symbol_row c place s = names_text c place s ++ (codes "  " ++ (numbers_text c s ++ (codes "  " ++ counts_text c s)))

abbrev pub row_by : Columns → ℕ → Result AdsSymbolInfo Refusal → List ℕ
row_by c place (Ok s) = symbol_row c place s
row_by c place (Err why) = refused_row c.place place why

-- the line of an entry
unfoldable pub line_text : Columns → Piece AdsSymbolInfo → List ℕ
line_text c p = row_by c p.start p.answer ++ codes "\n"

-- what the upload is, the headings, and a line for each entry
unfoldable pub table_text : Upload → List ℕ
table_text u =
    let ps : List (Piece AdsSymbolInfo) = pieces (symbol_of u.mode) u.bytes in
    (upload_text u ++ (codes "\n" ++ (headings_text (columns_of ps) ++ codes "\n"))) ++ flat_map (line_text (columns_of ps)) ps

-- docs/FORMAT.md, "The command's text". What is written of the entries at some starts.
use Rattle.std.specs.Prelude.{ℕ, List, ◌++◌, codes, leb, length, Option, Some, None, if◌then◌else◌}
use Rattle.std.specs.List.{filter_map, flat_map}
use Rattle.walk.specs.declared.Piece.{Piece}
use Rattle.walk.specs.Pieces.{piece_at}
use Rattle.symbol.specs.declared.AdsSymbolInfo.{AdsSymbolInfo}
use Rattle.symbol.specs.Symbol.{symbol_of}
use Rattle.report.specs.declared.Upload.{Upload}
use Rattle.report.specs.Report.{json_line, upload_text}
use Rattle.report.specs.Table.{columns_of, headings_text, line_text}

-- what stands from a place on: nothing at the upload's end
unfoldable pub entry_at : Upload → ℕ → Option (Piece AdsSymbolInfo)
entry_at u at = if leb (length u.bytes.now) at then None else Some (piece_at (symbol_of u.mode) u.bytes at)

abbrev pub entries_at : Upload → List ℕ → List (Piece AdsSymbolInfo)
entries_at u starts = filter_map (entry_at u) starts

-- a line of JSON for each
abbrev pub lines : Upload → List ℕ → List ℕ
lines u starts = flat_map json_line (entries_at u starts)

-- a table of some entries: what the upload is, the headings, and a line for each, in columns as wide as these need
abbrev pub table_of : Upload → List (Piece AdsSymbolInfo) → List ℕ
table_of u ps = (upload_text u ++ (codes "\n" ++ (headings_text (columns_of ps) ++ codes "\n"))) ++ flat_map (line_text (columns_of ps)) ps

unfoldable pub table : Upload → List ℕ → List ℕ
table u starts = table_of u (entries_at u starts)

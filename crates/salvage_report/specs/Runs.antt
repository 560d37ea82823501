-- docs/FORMAT.md, "The command's text" and "Salvage": the table of what a salvage dropped, a line for each refused piece.
use Rattle.std.specs.Prelude.{ℕ, ◌-◌, ◌==◌, max, List, [], ◌∷◌, ◌++◌, length, codes, decimal, Result, Ok, Err, if◌then◌else◌}
use Rattle.std.specs.List.{flat_map}
use Rattle.refusal.specs.declared.Refusal.{Refusal}
use Rattle.symbol.specs.declared.AdsSymbolInfo.{AdsSymbolInfo}
use Rattle.symbol.specs.Symbol.{symbol_of}
use Rattle.walk.specs.declared.Piece.{Piece}
use Rattle.walk.specs.Pieces.{pieces}
use Rattle.wording.specs.Wording.{refusal_text}
use Rattle.report.specs.declared.Upload.{Upload}
use Rattle.report.specs.declared.Tally.{Tally}
use Rattle.report.specs.Report.{upload_text}
use Rattle.report.specs.Cells.{at_right, number_cell}
use Rattle.salvage_report.specs.declared.Widths.{Widths}
use Rattle.salvage_report.specs.Dropped.{dropped_of, kept_text}

-- the widths of the headings
abbrev pub headings : Widths
headings = record { place = 5; length = 6 }

-- wide enough for one more piece
abbrev pub fitted_by : Widths → ℕ → ℕ → Result AdsSymbolInfo Refusal → Widths
fitted_by w start end (Ok r) = w
fitted_by w start end (Err why) = record { place = max w.place (length (decimal start)); length = max w.length (length (decimal (end - start))) }

unfoldable pub fitted : Widths → Piece AdsSymbolInfo → Widths
fitted w p = fitted_by w p.start p.end p.answer

unfoldable pub fitted_on : Widths → List (Piece AdsSymbolInfo) → Widths
fitted_on w [] = w
fitted_on w (p ∷ ps) = fitted_on (fitted w p) ps

abbrev pub widths_of : List (Piece AdsSymbolInfo) → Widths
widths_of ps = fitted_on headings ps

unfoldable pub headings_text : Widths → List ℕ
headings_text w = at_right w.place 5 (codes "place") ++ (codes "  " ++ (at_right w.length 6 (codes "length") ++ codes "  why\n"))

-- where a piece was dropped, how many bytes, and why; nothing of one that was kept
abbrev pub run_by : Widths → ℕ → ℕ → Result AdsSymbolInfo Refusal → List ℕ
run_by w start end (Ok r) = []
run_by w start end (Err why) = number_cell w.place start ++ (codes "  " ++ (number_cell w.length (end - start) ++ (codes "  " ++ (refusal_text why ++ codes "\n"))))

unfoldable pub run_text : Widths → Piece AdsSymbolInfo → List ℕ
run_text w p = run_by w p.start p.end p.answer

-- none where nothing was dropped
unfoldable pub table_text : Tally → List (Piece AdsSymbolInfo) → List ℕ
table_text t ps = if t.refused == 0 then [] else headings_text (widths_of ps) ++ flat_map (run_text (widths_of ps)) ps

-- where the upload is from, the table, and the last line
unfoldable pub report_text : Upload → Tally → List ℕ → List ℕ → List ℕ
report_text u t kept to =
    (upload_text u ++ codes "\n") ++ (table_text t (pieces (symbol_of u.mode) u.bytes) ++ kept_text t.accepted (length kept) to (dropped_of u t kept))

-- docs/FORMAT.md, "The command's text" and "Salvage": what is written of a salvage, by what it dropped.
use Rattle.std.specs.Prelude.{ℕ, ◌+◌, ◌≤◌, ◌≡◌, List, [], ◌∷◌, ◌++◌, codes, decimal, length, map, is_ok, Contains, Ok, Err}
use Rattle.std.specs.List.{flat_map, count_by, sum_by}
use Rattle.refusal.specs.Refusal.{limit, figures_of}
use Rattle.refusal.specs.declared.Refusal.{Refusal}
use Rattle.symbol.specs.declared.AdsSymbolInfo.{AdsSymbolInfo}
use Rattle.symbol.specs.Symbol.{symbol_of}
use Rattle.walk.specs.declared.Piece.{Piece}
use Rattle.walk.specs.Pieces.{pieces}
use Rattle.salvage.specs.Salvage.{kept, dropped}
use Rattle.wording.specs.Wording.{refusal_text}
use Rattle.report.specs.declared.Upload.{Upload}
use Rattle.report.specs.Aligned.{right, IsRow}
use Rattle.report.specs.Report.{tally_of, upload_text}
use Rattle.salvage_report.specs.Dropped.{kept_text}
use Rattle.salvage_report.specs.Runs.{report_text}

-- a piece that was dropped
pub record Run : Type 0 where
  pub place : ℕ
  pub bytes : ℕ
  pub why : Refusal

-- those of some pieces that were dropped, in their order
pub data Drops : List (Piece AdsSymbolInfo) → List Run → Type 0 where
  done : Drops [] []
  accepted : {p : Piece AdsSymbolInfo} {r : AdsSymbolInfo} {ps : List (Piece AdsSymbolInfo)} {runs : List Run} → p.answer ≡ Ok r → Drops ps runs → Drops (p ∷ ps) runs
  refused : {p : Piece AdsSymbolInfo} {why : Refusal} {bytes : ℕ} {ps : List (Piece AdsSymbolInfo)} {runs : List Run} → p.answer ≡ Err why → p.start + bytes ≡ p.end → Drops ps runs
      → Drops (p ∷ ps) (record { place = p.start; bytes = bytes; why = why } ∷ runs)

-- a line for each: place and length at the right of their columns, and behind two spaces the refusal in words
pub data AreLines (ws : List ℕ) : List Run → List ℕ → Type 0 where
  done : AreLines ws [] []
  next : {run : Run} {runs : List Run} {front rest : List ℕ} → IsRow ws (right (decimal run.place) ∷ right (decimal run.bytes) ∷ []) front → AreLines ws runs rest
      → AreLines ws (run ∷ runs) ((front ++ (codes "  " ++ (refusal_text run.why ++ codes "\n"))) ++ rest)

-- a table of what was dropped: nothing where nothing was; else headings and the lines, each column as wide as its heading or one of its cells
pub data IsTable : List Run → List ℕ → Type 0 where
  none : IsTable [] []
  some : {run : Run} {runs : List Run} {place bytes : ℕ} {front lines : List ℕ} → IsRow (place ∷ bytes ∷ []) (right (codes "place") ∷ right (codes "length") ∷ []) front
      → AreLines (place ∷ bytes ∷ []) (run ∷ runs) lines
      → Contains (5 ∷ map (λ r. length (decimal r.place)) (run ∷ runs)) place → Contains (6 ∷ map (λ r. length (decimal r.bytes)) (run ∷ runs)) bytes
      → IsTable (run ∷ runs) ((front ++ codes "  why\n") ++ lines)

-- what was read, the table, and how much was kept and dropped; what was dropped is what a salvage lists, by start, length and number
pub record IsReport (u : Upload) (to written : List ℕ) : Type 0 where
  pub runs : List Run
  pub drops : Drops (pieces (symbol_of u.mode) u.bytes) runs
  pub listed : dropped (pieces (symbol_of u.mode) u.bytes) ≡ flat_map (λ r. r.place ∷ r.bytes ∷ (figures_of r.why).number ∷ []) runs
  pub table : List ℕ
  pub tabled : IsTable runs table
  pub kept_bytes : ℕ
  pub whole : kept_bytes + sum_by (λ r. r.bytes) runs ≡ length u.bytes.now
  pub is : written
      ≡ upload_text u ++ (codes "\n" ++ (table ++ kept_text (count_by (λ p. is_ok p.answer) (pieces (symbol_of u.mode) u.bytes)) kept_bytes to (record { runs = length runs; bytes = sum_by (λ r. r.bytes) runs })))

pub record SalvageReported : Type 0 where
  pub reported : (u : Upload) (to : List ℕ) → length u.bytes.now ≤ limit
      → IsReport u to (report_text u (tally_of (pieces (symbol_of u.mode) u.bytes)) (kept u.bytes.now (pieces (symbol_of u.mode) u.bytes)) to)
  -- the last line, by figures that are all different
  pub many : kept_text 27 1939 (codes "out.bin") (record { runs = 3; bytes = 61 }) ≡ codes "kept: 27 entries, 1,939 bytes, in out.bin; dropped: 3 runs, 61 bytes\n"
  pub one : kept_text 1 0 (codes "-") (record { runs = 1; bytes = 1 }) ≡ codes "kept: 1 entry, 0 bytes, in -; dropped: 1 run, 1 byte\n"

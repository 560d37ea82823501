-- docs/FORMAT.md, "One bad entry" and "Listing". The rows that are listed of an upload, and what stays of them where another differs from it inside some entries.
use Rattle.std.specs.Prelude.{ℕ, ◌+◌, ◌≤◌, ◌≡◌, List, ◌∷◌, ◌++◌, map, length, flat_map, Ok}
use Rattle.refusal.specs.declared.Mode.{Mode}
use Rattle.entry.specs.Alike.{DiffersInside}
use Rattle.hex.specs.Hex.{decode_of}
use Rattle.walk.specs.declared.Piece.{Piece}
use Rattle.walk.specs.Pieces.{pieces}
use Rattle.symbol.specs.declared.AdsSymbolInfo.{AdsSymbolInfo}
use Rattle.symbol.specs.Symbol.{symbol_of}
use Rattle.listing.specs.Listing.{row, lying, longest, header, lines, lines_text, listing}
use Rattle.damage.specs.Others.{others}

-- a row of a listing, by the place of its piece
pub record Row : Type 0 where
  pub start : ℕ
  pub text : List ℕ

abbrev pub row_of : ℕ → Piece AdsSymbolInfo → Row
row_of line p = record { start = p.start; text = row line p }

-- those of an upload that stands in the line with this number
abbrev pub rows_of : Mode → ℕ → List ℕ → List Row
rows_of mode line s = map (row_of line) (pieces (symbol_of mode) (lying s))

-- there are as many, each of the piece at the same place, and all but those of the entries that differ are the same text
pub record RowsStay (rows : Mode → ℕ → List ℕ → List Row) (mode : Mode) (line : ℕ) (s t places : List ℕ) : Type 0 where
  pub starts : map (λ r. r.start) (rows mode line s) ≡ map (λ r. r.start) (rows mode line t)
  pub other : others (λ r. r.start) places (rows mode line s) ≡ others (λ r. r.start) places (rows mode line t)

abbrev pub ListingStays : (Mode → ℕ → List ℕ → List Row) → Type 0
ListingStays rows = (mode : Mode) (line : ℕ) (s t places : List ℕ) → DiffersInside s t places → RowsStay rows mode line s t places

-- what is listed of an input, one of whose lines spells an upload: what is listed of the lines before it, the rows of the upload, and what is listed of the lines behind
abbrev pub ListedByRows : Type 0
ListedByRows =
    (mode : Mode) (input digits s : List ℕ) (before behind : List (List ℕ))
    → lines input ≡ before ++ (digits ∷ behind) → length digits ≤ longest → decode_of digits ≡ Ok s
    → listing mode input ≡ header ++ (lines_text mode 1 before ++ (flat_map (λ r. r.text) (rows_of mode (1 + length before) s) ++ lines_text mode (2 + length before) behind))

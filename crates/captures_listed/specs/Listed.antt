-- docs/FORMAT.md, "Captures": what `list` makes of an upload that was split into lines.
use Rattle.std.specs.Prelude.{ℕ, ◌-◌, ◌<◌, ◌≤◌, ◌≡◌, List, ◌++◌, length, codes, decimal, Ok}
use Rattle.std.specs.List.{flat_map, enumerate_from}
use Rattle.hex.specs.Hex.{IsBytes, decode_of}
use Rattle.refusal.specs.declared.Mode.{Mode}
use Rattle.walk.specs.declared.Piece.{Piece}
use Rattle.walk.specs.Pieces.{pieces}
use Rattle.symbol.specs.declared.AdsSymbolInfo.{AdsSymbolInfo}
use Rattle.symbol.specs.Symbol.{symbol_of}
use Rattle.listing.specs.Row.{refusal_row}
use Rattle.listing.specs.Listing.{answer_row, header, listing, lying}
use Rattle.captures.specs.Captures.{splitting}

-- What is listed of a piece in a line of its own. Of 4 to 16,384 bytes it is what the walk of the whole upload tells of it, but for the line and the start. Of fewer it is 2, which needs 4 and has these; more are no frame, which is 12
pub record IsListedAlone (alone : ℕ → Piece AdsSymbolInfo → List ℕ) : Type 0 where
  pub same : (line : ℕ) (p : Piece AdsSymbolInfo) → 4 ≤ p.end - p.start → p.end - p.start ≤ 16384 → alone line p ≡ answer_row line 0 p.answer ++ codes "\n"
  pub few : (line : ℕ) (p : Piece AdsSymbolInfo) → p.end - p.start < 4 → alone line p ≡ refusal_row line 0 (record { number = 2; expected = 4; got = p.end - p.start }) ++ codes "\n"
  pub long : (line : ℕ) (p : Piece AdsSymbolInfo) → 16384 < p.end - p.start → alone line p ≡ decimal line ++ codes " 0 refused 12 0 0\n"

-- the rows of an upload's pieces, each in a line of its own from 1 on
abbrev pub rows_alone : (ℕ → Piece AdsSymbolInfo → List ℕ) → Mode → List ℕ → List ℕ
rows_alone alone mode s = flat_map (λ l. alone l.0 l.1) (enumerate_from 1 (pieces (symbol_of mode) (lying s)))

pub record Listed (mode : Mode) (s text : List ℕ) : Type 0 where
  pub alone : ℕ → Piece AdsSymbolInfo → List ℕ
  pub is : IsListedAlone alone
  pub lines : listing mode text ≡ header ++ rows_alone alone mode s

abbrev pub LinesListed : Type 0
LinesListed = (mode : Mode) (s text : List ℕ) → IsBytes s → length s ≤ 16777216 → splitting s ≡ Ok text → Listed mode s text

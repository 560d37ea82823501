-- docs/FORMAT.md, "Plain form": an upload is compared with what the symbol writer gives for each of its records.
use Rattle.std.specs.Prelude.{ℕ, ◌+◌, ◌-◌, ◌≤◌, Bool, false, List, [], ◌∷◌, Result, Ok, Err, eqb, ltb, length, get_or, if◌then◌else◌}
use Rattle.std.specs.Borrow.{Bor}
use Rattle.le.specs.Le.{part}
use Rattle.part.specs.Outcome.{outcome, and_then}
use Rattle.refusal.specs.declared.Mode.TheVariants.{Present}
use Rattle.refusal.specs.declared.Refusal.{Refusal}
use Rattle.refusal.specs.declared.Refusal.TheVariants.{NotPlain}
use Rattle.walk.specs.declared.Piece.{Piece}
use Rattle.walk.specs.Pieces.{pieces}
use Rattle.symbol.specs.declared.AdsSymbolInfo.{AdsSymbolInfo}
use Rattle.symbol.specs.Symbol.{symbol_of}
use Rattle.symbol.specs.Writing.{symbol_written}
use Rattle.symbol.specs.Again.{new_of}

-- a byte stands at a place of an entry
abbrev pub stands : List ℕ → ℕ → ℕ → Bool
stands e at b = if ltb at (length e) then eqb (get_or e at 0) b else false

-- the place behind some bytes that stand in an entry from a place on, or the first place at which they do not
unfoldable pub along : List ℕ → ℕ → List ℕ → Result ℕ ℕ
along e at [] = Ok at
along e at (b ∷ more) = if stands e at b then along e (at + 1) more else Err at

-- neither is behind the entry
abbrev pub IsInside : List ℕ → Result ℕ ℕ → Type 0
IsInside e (Ok next) = next ≤ length e
IsInside e (Err at) = at ≤ length e

-- the entry ends there
abbrev pub at_end : List ℕ → ℕ → Result Unit ℕ
at_end e at = if eqb at (length e) then Ok tt else Err at

-- the first place at which an entry is not what is written of its record; its start where the record is refused
unfoldable pub departing : List ℕ → AdsSymbolInfo → Result Unit ℕ
departing e r = outcome (symbol_written (new_of r)) (λ bytes. and_then (along e 0 bytes) (at_end e)) (λ why. Err 0)

-- 19 with the place in the upload, where the entry starts at a place
abbrev pub placed : ℕ → Result Unit ℕ → Result Unit Refusal
placed start (Ok u) = Ok u
placed start (Err place) = Err (NotPlain (start + place))

-- of a piece: the refusal of its reading, or 10, or 19
unfoldable pub piece_plain : List ℕ → Piece AdsSymbolInfo → Result Unit Refusal
piece_plain s p = and_then p.answer (λ r. placed p.start (departing (part s p.start (p.end - p.start)) r))

-- of pieces: that of the first that has one
unfoldable pub pieces_plain : List ℕ → List (Piece AdsSymbolInfo) → Result Unit Refusal
pieces_plain s [] = Ok tt
pieces_plain s (p ∷ more) = and_then (piece_plain s p) (λ _. pieces_plain s more)

unfoldable pub plain_of : Bor (List ℕ) → Result Unit Refusal
plain_of s = pieces_plain s.now (pieces (symbol_of Present) s)

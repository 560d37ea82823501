-- docs/FORMAT.md, "The command's text" and "Plain form": what is told of an upload is its refusal, and true of the first entry that is not plain.
use Rattle.std.specs.Prelude.{ℕ, ◌+◌, ◌≡◌, List, ◌∷◌, ◌++◌, Option, Some, None, Result, Ok, Err, get_or}
use Rattle.std.specs.List.{All}
use Rattle.std.specs.Borrow.{Bor}
use Rattle.refusal.specs.declared.Mode.TheVariants.{Present}
use Rattle.refusal.specs.declared.Refusal.{Refusal}
use Rattle.refusal.specs.declared.Refusal.TheVariants.{NotPlain}
use Rattle.walk.specs.declared.Piece.{Piece}
use Rattle.walk.specs.Pieces.{pieces}
use Rattle.symbol.specs.declared.AdsSymbolInfo.{AdsSymbolInfo}
use Rattle.symbol.specs.Symbol.{symbol_of}
use Rattle.symbol.specs.Writing.{symbol_written}
use Rattle.symbol.specs.Again.{new_of}
use Rattle.plain.specs.Form.{HoldsBytes}
use Rattle.plain.specs.Plain.{plain_of}
use Rattle.plain.specs.Meaning.{own, IsPlain, Departs}
use Rattle.plain_report.specs.declared.Departure.{Departure}
use Rattle.plain_report.specs.declared.Fault.TheVariants.{Unread, Unwritten, Byte}
use Rattle.plain_report.specs.declared.Part.{Part}
use Rattle.plain_report.specs.Departure.{departure_of}
use Rattle.plain_report.specs.Parts.{StandsAt}

-- nothing is told of an upload that is plain, and of any other its refusal
abbrev pub Tells : Result Unit Refusal → Option Departure → Type 0
Tells t None = t ≡ Ok tt
Tells t (Some d) = t ≡ Err d.why

abbrev pub DepartureRefused : Type 0
DepartureRefused = (s : Bor (List ℕ)) → Tells (plain_of s) (departure_of s)

module _ (s : Bor (List ℕ)) where
  -- what is wrong with a piece: it is not read; its record is refused; or a byte is another than would be written, the first that is, in the part that stands there
  pub data Wrong (p : Piece AdsSymbolInfo) : Departure → Type 0 where
    unread : (why : Refusal) → p.answer ≡ Err why → Wrong p (record { start = p.start; why = why; fault = Unread })
    unwritten : (r : AdsSymbolInfo) (why : Refusal) → p.answer ≡ Ok r → symbol_written (new_of r) ≡ Err why → Wrong p (record { start = p.start; why = NotPlain p.start; fault = Unwritten r.name why })
    another : (r : AdsSymbolInfo) (bytes : List ℕ) (at : ℕ) (part : Part) → p.answer ≡ Ok r → symbol_written (new_of r) ≡ Ok bytes → Departs (own s p).now bytes at → StandsAt (own s p) at part
        → Wrong p (record { start = p.start; why = NotPlain (p.start + at); fault = Byte r.name at part (get_or (own s p).now at 0) (get_or bytes at 0) })

  pub data First : Option Departure → Type 0 where
    none : All (IsPlain s) (pieces (symbol_of Present) s) → First None
    first : (before behind : List (Piece AdsSymbolInfo)) (p : Piece AdsSymbolInfo) (d : Departure) → pieces (symbol_of Present) s ≡ before ++ (p ∷ behind) → All (IsPlain s) before → Wrong p d → First (Some d)

abbrev pub DepartureMeant : Type 0
DepartureMeant = (s : Bor (List ℕ)) → HoldsBytes s → First s (departure_of s)

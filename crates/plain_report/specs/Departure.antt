-- docs/FORMAT.md, "The command's text" and "Plain form": the first entry that is not plain, and what is wrong with it.
use Rattle.std.specs.Prelude.{ℕ, ◌+◌, ◌-◌, List, [], ◌∷◌, Option, Some, None, eqb, ltb, length, get_or, if◌then◌else◌}
use Rattle.std.specs.Borrow.{Bor}
use Rattle.le.specs.Le.{part}
use Rattle.part.specs.Outcome.{outcome}
use Rattle.refusal.specs.declared.Mode.TheVariants.{Present}
use Rattle.refusal.specs.declared.Refusal.TheVariants.{NotPlain}
use Rattle.walk.specs.declared.Piece.{Piece}
use Rattle.walk.specs.Pieces.{pieces}
use Rattle.symbol.specs.declared.AdsSymbolInfo.{AdsSymbolInfo}
use Rattle.symbol.specs.Symbol.{symbol_of}
use Rattle.symbol.specs.Writing.{symbol_written}
use Rattle.symbol.specs.Again.{new_of}
use Rattle.plain.specs.Plain.{departing}
use Rattle.plain_report.specs.declared.Departure.{Departure}
use Rattle.plain_report.specs.declared.Fault.{Fault}
use Rattle.plain_report.specs.declared.Fault.TheVariants.{Unread, Unwritten, Byte}
use Rattle.plain_report.specs.declared.Part.{Part}
use Rattle.plain_report.specs.declared.Part.TheVariants.{Length, NameEnd, TypeEnd, CommentEnd, Count}

-- what stands at a place of an entry at which it can depart
unfoldable pub part_at : AdsSymbolInfo → ℕ → Part
part_at r place =
    if ltb place 4 then Length
    else if eqb place (30 + length r.name.now) then NameEnd
    else if eqb place (31 + length r.name.now + length r.type_name.now) then TypeEnd
    else if eqb place (32 + length r.name.now + length r.type_name.now + length r.comment.now) then CommentEnd
    else Count

-- the byte there and the one that would be written, or why nothing would be
unfoldable pub fault_at : AdsSymbolInfo → List ℕ → ℕ → Fault
fault_at r own place =
    outcome (symbol_written (new_of r))
    (λ bytes. Byte r.name place (part_at r place) (get_or own place 0) (get_or bytes place 0))
    (λ why. Unwritten r.name why)

-- of an entry that starts at a place and departs
abbrev pub departure : ℕ → AdsSymbolInfo → List ℕ → ℕ → Departure
departure start r own place = record { start = start; why = NotPlain (start + place); fault = fault_at r own place }

-- the first of some pieces that is not plain
unfoldable pub first_of : List ℕ → List (Piece AdsSymbolInfo) → Option Departure
first_of s [] = None
first_of s (p ∷ ps) =
    outcome p.answer
    (λ r. outcome (departing (part s p.start (p.end - p.start)) r) (λ _. first_of s ps) (λ place. Some (departure p.start r (part s p.start (p.end - p.start)) place)))
    (λ why. Some (record { start = p.start; why = why; fault = Unread }))

unfoldable pub departure_of : Bor (List ℕ) → Option Departure
departure_of s = first_of s.now (pieces (symbol_of Present) s)

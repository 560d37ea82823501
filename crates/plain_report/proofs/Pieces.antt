-- What the loop over an upload's pieces keeps.
use Rattle.std.proofs.Common.{ℕ, ◌-◌, ◌≡◌, List, [], ◌∷◌, Ok, Err}
use Rattle.std.specs.Prelude.{Some, None}
use Rattle.le.specs.Le.{part}
use Rattle.refusal.specs.declared.Refusal.{Refusal}
use Rattle.walk.specs.declared.Piece.{Piece}
use Rattle.symbol.specs.declared.AdsSymbolInfo.{AdsSymbolInfo}
use Rattle.plain.specs.Plain.{departing}
use Rattle.plain_report.specs.declared.Fault.TheVariants.{Unread}
use Rattle.plain_report.specs.Departure.{departure, first_of}

-- what is left, behind a piece
module _ (s : List ℕ) {left rest : List (Piece AdsSymbolInfo)} {p : Piece AdsSymbolInfo} (turn : left ≡ p ∷ rest) where
  pub first_on : (r : AdsSymbolInfo) → p.answer ≡ Ok r → departing (part s p.start (p.end - p.start)) r ≡ Ok tt → first_of s left ≡ first_of s rest
  unfolding first_of
  first_on r e h = simp turn (simp (e, h))

  pub first_unread : (why : Refusal) → p.answer ≡ Err why → first_of s left ≡ Some (record { start = p.start; why = why; fault = Unread })
  unfolding first_of
  first_unread why e = simp turn (simp e)

  pub first_departs : (r : AdsSymbolInfo) (k : ℕ) → p.answer ≡ Ok r → departing (part s p.start (p.end - p.start)) r ≡ Err k → first_of s left ≡ Some (departure p.start r (part s p.start (p.end - p.start)) k)
  unfolding first_of
  first_departs r k e h = simp turn (simp (e, h))

pub first_none : (s : List ℕ) {left : List (Piece AdsSymbolInfo)} → left ≡ [] → first_of s left ≡ None
unfolding first_of
first_none s e = simp e

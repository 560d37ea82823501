-- What the loop over an upload's pieces keeps.
use Rattle.std.proofs.Common.{ℕ, ◌+◌, ◌-◌, ◌≡◌, List, [], ◌∷◌, Ok, Err}
use Rattle.le.specs.Le.{part}
use Rattle.refusal.specs.declared.Refusal.{Refusal}
use Rattle.refusal.specs.declared.Refusal.TheVariants.{NotPlain}
use Rattle.walk.specs.declared.Piece.{Piece}
use Rattle.symbol.specs.declared.AdsSymbolInfo.{AdsSymbolInfo}
use Rattle.plain.specs.Plain.{departing, piece_plain, pieces_plain}

-- what is left, behind a piece
module _ (s : List ℕ) {left rest : List (Piece AdsSymbolInfo)} {p : Piece AdsSymbolInfo} (turn : left ≡ p ∷ rest) where
  pub plain_on : (r : AdsSymbolInfo) → p.answer ≡ Ok r → departing (part s p.start (p.end - p.start)) r ≡ Ok tt → pieces_plain s left ≡ pieces_plain s rest
  unfolding pieces_plain piece_plain
  plain_on r e h = simp turn (simp (e, h))

  pub plain_stops : (why : Refusal) → p.answer ≡ Err why → pieces_plain s left ≡ Err why
  unfolding pieces_plain piece_plain
  plain_stops why e = simp turn (simp e)

  pub plain_departs : (r : AdsSymbolInfo) (k : ℕ) → p.answer ≡ Ok r → departing (part s p.start (p.end - p.start)) r ≡ Err k → pieces_plain s left ≡ Err (NotPlain (p.start + k))
  unfolding pieces_plain piece_plain
  plain_departs r k e h = simp turn (simp (e, h))

pub plain_none : (s : List ℕ) {left : List (Piece AdsSymbolInfo)} → left ≡ [] → pieces_plain s left ≡ Ok tt
unfolding pieces_plain
plain_none s e = simp e

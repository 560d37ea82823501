-- docs/FORMAT.md, "Salvage". The pieces of an upload cover it exactly: what is kept of it and the runs that are dropped, one after another, are the upload.
use Rattle.std.specs.Prelude.{◌-◌, ◌≡◌, ℕ, List, [], ◌∷◌, ◌++◌}
use Rattle.std.specs.Prelude.{Result}
use Rattle.std.specs.Borrow.{Bor}
use Rattle.le.specs.Le.{part}
use Rattle.refusal.specs.declared.Refusal.{Refusal}
use Rattle.walk.specs.declared.Piece.{Piece}
use Rattle.walk.specs.Pieces.{pieces}

-- the bytes of each piece, one after another
unfoldable pub joined : {R : Type 0} → List ℕ → List (Piece R) → List ℕ
joined s [] = []
joined s (p ∷ ps) = part s p.start (p.end - p.start) ++ joined s ps

abbrev pub Covers : {R : Type 0} → (Bor (List ℕ) → Result R Refusal) → Type 0
Covers read = (s : Bor (List ℕ)) → joined s.now (pieces read s) ≡ s.now

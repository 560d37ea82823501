-- An index looks at whether entries are accepted, and at nothing else of their records.
use Rattle.std.proofs.Common.{ℕ, ◌≡◌, refl, ap, ◌∙◌, List, [], ◌∷◌, Bor}
use Rattle.std.specs.Prelude.{map, Result, Ok, Err}
use Rattle.refusal.specs.declared.Mode.{Mode}
use Rattle.refusal.specs.declared.Refusal.{Refusal}
use Rattle.walk.specs.declared.Piece.{Piece}
use Rattle.walk.specs.Pieces.{pieces}
use Rattle.walk.specs.Accepted.{accepted, accepted_of}
use Rattle.walk.proofs.Mapped.{mapped, pieces_mapped}
use Rattle.index.specs.Index.{starts, stopped, tally_of}

module _ {R Q : Type 0} (f : R → Q) where
  starts_by : (start end : ℕ) (t : Result R Refusal) (ps : List (Piece R)) → starts (map (mapped f) ps) ≡ starts ps
      → starts (mapped f (record { start = start; end = end; answer = t }) ∷ map (mapped f) ps) ≡ starts (record { start = start; end = end; answer = t } ∷ ps)
  unfolding starts
  starts_by start end (Ok r) ps on = simp on
  starts_by start end (Err why) ps on = on

  starts_mapped : (ps : List (Piece R)) → starts (map (mapped f) ps) ≡ starts ps
  unfolding starts
  starts_mapped [] = refl
  starts_mapped (p ∷ ps) = starts_by p.start p.end p.answer ps (starts_mapped ps)

  stopped_by : (start end : ℕ) (t : Result R Refusal) (ps : List (Piece R)) → stopped (map (mapped f) ps) ≡ stopped ps
      → stopped (mapped f (record { start = start; end = end; answer = t }) ∷ map (mapped f) ps) ≡ stopped (record { start = start; end = end; answer = t } ∷ ps)
  stopped_by start end (Ok r) ps on = on
  stopped_by start end (Err why) ps on = simp on

  stopped_mapped : (ps : List (Piece R)) → stopped (map (mapped f) ps) ≡ stopped ps
  stopped_mapped [] = refl
  stopped_mapped (p ∷ ps) = stopped_by p.start p.end p.answer ps (stopped_mapped ps)

  tally_mapped : (ps : List (Piece R)) → tally_of (map (mapped f) ps) ≡ tally_of ps
  unfolding tally_of
  tally_mapped ps = simp (starts_mapped ps, stopped_mapped ps)

module _ {R : Type 0} (length_of : R → ℕ) (read : Mode → Bor (List ℕ) → Result R Refusal) (mode : Mode) (s : Bor (List ℕ)) where
  pub starts_alike : starts (pieces (accepted_of length_of read mode) s) ≡ starts (pieces (read mode) s)
  unfolding accepted_of
  starts_alike = ap starts (pieces_mapped (accepted length_of) (read mode) s) ∙ starts_mapped (accepted length_of) (pieces (read mode) s)

  pub tally_alike : tally_of (pieces (accepted_of length_of read mode) s) ≡ tally_of (pieces (read mode) s)
  unfolding accepted_of
  tally_alike = ap tally_of (pieces_mapped (accepted length_of) (read mode) s) ∙ tally_mapped (accepted length_of) (pieces (read mode) s)

-- A salvage looks at whether entries are accepted, and at nothing else of their records.
use Rattle.std.proofs.Common.{ℕ, ◌≡◌, refl, ap, ◌∙◌, List, [], ◌∷◌, Bor}
use Rattle.std.specs.Prelude.{map, Result, Ok, Err}
use Rattle.refusal.specs.declared.Mode.{Mode}
use Rattle.refusal.specs.declared.Refusal.{Refusal}
use Rattle.walk.specs.declared.Piece.{Piece}
use Rattle.walk.specs.Mapped.{map_ok}
use Rattle.walk.specs.Pieces.{pieces}
use Rattle.walk.specs.Accepted.{accepted, accepted_of}
use Rattle.walk.proofs.Mapped.{mapped, pieces_mapped}
use Rattle.salvage.specs.Salvage.{bytes_of, run_of, kept, dropped}

module _ {R Q : Type 0} (f : R → Q) where
  bytes_same : (s : List ℕ) (start end : ℕ) (t : Result R Refusal) → bytes_of s start end (map_ok f t) ≡ bytes_of s start end t
  bytes_same s start end (Ok r) = refl
  bytes_same s start end (Err why) = refl

  run_same : (start end : ℕ) (t : Result R Refusal) → run_of start end (map_ok f t) ≡ run_of start end t
  run_same start end (Ok r) = refl
  run_same start end (Err why) = refl

  kept_mapped : (s : List ℕ) (ps : List (Piece R)) → kept s (map (mapped f) ps) ≡ kept s ps
  unfolding kept
  kept_mapped s [] = refl
  kept_mapped s (p ∷ ps) = simp (bytes_same s p.start p.end p.answer, kept_mapped s ps)

  dropped_mapped : (ps : List (Piece R)) → dropped (map (mapped f) ps) ≡ dropped ps
  unfolding dropped
  dropped_mapped [] = refl
  dropped_mapped (p ∷ ps) = simp (run_same p.start p.end p.answer, dropped_mapped ps)

module _ {R : Type 0} (length_of : R → ℕ) (read : Mode → Bor (List ℕ) → Result R Refusal) (mode : Mode) (s : Bor (List ℕ)) where
  pub kept_alike : kept s.now (pieces (accepted_of length_of read mode) s) ≡ kept s.now (pieces (read mode) s)
  unfolding accepted_of
  kept_alike = ap (kept s.now) (pieces_mapped (accepted length_of) (read mode) s) ∙ kept_mapped (accepted length_of) s.now (pieces (read mode) s)

  pub dropped_alike : dropped (pieces (accepted_of length_of read mode) s) ≡ dropped (pieces (read mode) s)
  unfolding accepted_of
  dropped_alike = ap dropped (pieces_mapped (accepted length_of) (read mode) s) ∙ dropped_mapped (accepted length_of) (pieces (read mode) s)

-- Pieces go forward and end inside the upload.
use Rattle.std.proofs.Common.{ℕ, zero, suc, ◌<◌, ◌≤◌, ◌≡◌, refl, Bool, true, false, List, [], ◌∷◌, length, arith}
use Rattle.std.specs.Prelude.{leb, All, if◌then◌else◌}
use Rattle.std.specs.Prelude.{Result}
use Rattle.std.specs.Borrow.{Bor}
use Rattle.std.proofs.lemmas.List.Elements.{All-nil, All-cons}
use borrow.Author.Tests.{leb-false}
use Rattle.refusal.specs.declared.Refusal.{Refusal}
use Rattle.walk.specs.declared.Piece.{Piece}
use Rattle.walk.specs.Pieces.{piece_at, pieces_from}
use Rattle.walk.proofs.Left.{piece_starts, piece_ends}

-- a piece goes forward and ends inside the upload
abbrev pub Forward : {R : Type 0} → List ℕ → Piece R → Type 0
Forward s p = (p.start ≤ p.end) × (p.end ≤ length s)

module _ {R : Type 0} (read : Bor (List ℕ) → Result R Refusal) (s : Bor (List ℕ)) where
  pub forward_at : (at : ℕ) → at < length s.now → Forward s.now (piece_at read s at)
  forward_at at h = let e = piece_ends read s at h in (omega (arith, piece_starts read s at, e.0), e.1)

  pub all_forward : (n at : ℕ) → All (Forward s.now) (pieces_from read s at n)
  unfolding pieces_from
  all_forward zero at = All-nil (Forward s.now)
  all_forward (suc n) at = by (leb (length s.now) at) refl (all_forward n (piece_at read s at).end)
    where
      by : (b : Bool) → leb (length s.now) at ≡ b → All (Forward s.now) (pieces_from read s (piece_at read s at).end n) → All (Forward s.now) (if b then [] else piece_at read s at ∷ pieces_from read s (piece_at read s at).end n)
      by true e h = All-nil (Forward s.now)
      by false e h = All-cons (Forward s.now) _ _ (forward_at at (leb-false (length s.now) at e)) h

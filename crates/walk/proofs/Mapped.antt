-- The pieces of a reader of less are those of the other, with less in each answer.
use Rattle.std.proofs.Common.{ℕ, zero, suc, ◌≡◌, refl, ap, Bool, true, false, List, [], ◌∷◌, length, Bor}
use Rattle.std.specs.Prelude.{map, leb, is_ok, Option, Some, None, Result, Ok, Err, if◌then◌else◌}
use Rattle.part.specs.Slice.{part}
use Rattle.part.specs.Outcome.{and_then}
use Rattle.refusal.specs.declared.Refusal.{Refusal}
use Rattle.refusal.specs.declared.Refusal.TheVariants.{ZeroEntryLength}
use Rattle.entry.specs.Entry.{claim_at}
use Rattle.entry.specs.Walk.{stands}
use Rattle.walk.specs.declared.Piece.{Piece}
use Rattle.walk.specs.Mapped.{map_ok}
use Rattle.walk.specs.Pieces.{claim_there, piece_at, pieces_from, pieces}

module _ {R Q : Type 0} (f : R → Q) where
  abbrev pub mapped : Piece R → Piece Q
  mapped p = record { start = p.start; end = p.end; answer = map_ok f p.answer }

  module _ (read : Bor (List ℕ) → Result R Refusal) (s : Bor (List ℕ)) where
    abbrev less : Bor (List ℕ) → Result Q Refusal
    less e = map_ok f (read e)

    piece_by : (at next : ℕ) (b : Bool) (c : Option (Result ℕ Refusal))
        → (if b then record { start = at; end = length s.now; answer = Err ZeroEntryLength }
        else record { start = at; end = next; answer = and_then (claim_there c) (λ size. less (part s at size)) })
        ≡ mapped (if b then record { start = at; end = length s.now; answer = Err ZeroEntryLength }
        else record { start = at; end = next; answer = and_then (claim_there c) (λ size. read (part s at size)) })
    piece_by at next true c = refl
    piece_by at next false None = refl
    piece_by at next false (Some (Ok size)) = refl
    piece_by at next false (Some (Err why)) = refl

    piece_is : (at : ℕ) → piece_at less s at ≡ mapped (piece_at read s at)
    unfolding piece_at
    piece_is at = piece_by at (claim_at s.now at).next (stands s.now at) (claim_at s.now at).size

    turn : (at most : ℕ) (b : Bool) → ((next : ℕ) → pieces_from less s next most ≡ map mapped (pieces_from read s next most))
        → (if b then [] else piece_at less s at ∷ pieces_from less s (piece_at less s at).end most)
        ≡ map mapped (if b then [] else piece_at read s at ∷ pieces_from read s (piece_at read s at).end most)
    turn at most true on = refl
    turn at most false on = simp (piece_is at) (ap (λ ps. mapped (piece_at read s at) ∷ ps) (on _))

    from : (at most : ℕ) → pieces_from less s at most ≡ map mapped (pieces_from read s at most)
    unfolding pieces_from
    from at zero = refl
    from at (suc most) = turn at most (leb (length s.now) at) (λ next. from next most)

    pub pieces_mapped : pieces less s ≡ map mapped (pieces read s)
    pieces_mapped = from 0 (length s.now)

-- a reader of less accepts what the other accepts
pub ok_mapped : {R Q : Type 0} (f : R → Q) (t : Result R Refusal) → is_ok (map_ok f t) ≡ is_ok t
ok_mapped f (Ok r) = refl
ok_mapped f (Err why) = refl

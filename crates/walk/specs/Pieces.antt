-- docs/FORMAT.md, "Walking". The pieces of an upload: what stands from each place where the walk goes on up to the next.
use Rattle.std.specs.Prelude.{ℕ, zero, suc, ◌-◌, ◌≡◌, List, [], ◌∷◌, leb, length, Option, Some, None, Result, Err, if◌then◌else◌}
use Rattle.std.specs.Borrow.{Bor}
use Rattle.std.specs.Iterator.{YieldsFirst}
use Rattle.part.specs.Slice.{part}
use Rattle.part.specs.Outcome.{and_then}
use Rattle.refusal.specs.declared.Mode.{Mode}
use Rattle.refusal.specs.declared.Refusal.{Refusal}
use Rattle.refusal.specs.declared.Refusal.TheVariants.{ZeroEntryLength}
use Rattle.entry.specs.Entry.{claim_at}
use Rattle.entry.specs.Walk.{stands}
use Rattle.walk.specs.declared.Piece.{Piece}
use Rattle.walk.specs.declared.Walker.{Walker}

-- there is a claim before the end
abbrev pub claim_there : Option (Result ℕ Refusal) → Result ℕ Refusal
claim_there None = Err ZeroEntryLength
claim_there (Some claim) = claim

module _ {R : Type 0} (read : Bor (List ℕ) → Result R Refusal) (s : Bor (List ℕ)) where
  -- the piece at a place before the end: a zero claim takes all that is left
  unfoldable pub piece_at : ℕ → Piece R
  piece_at at =
      if stands s.now at then record { start = at; end = length s.now; answer = Err ZeroEntryLength }
      else record {
        start = at;
        end = (claim_at s.now at).next;
        answer = and_then (claim_there (claim_at s.now at).size) (λ size. read (part s at size));
      }

  -- the pieces from a place on, at most so many
  unfoldable pub pieces_from : ℕ → ℕ → List (Piece R)
  pieces_from at zero = []
  pieces_from at (suc most) = if leb (length s.now) at then [] else piece_at at ∷ pieces_from (piece_at at).end most

  -- each is at least a byte long, so there are no more than bytes
  abbrev pub pieces : List (Piece R)
  pieces = pieces_from 0 (length s.now)

-- what a walker has still to give
abbrev pub walker_left : {E : Type 0} → (Mode → Bor (List ℕ) → Result E Refusal) → Walker E → List (Piece E)
walker_left read w = pieces_from (read w.mode) w.bytes w.cursor.at (length w.bytes.now - w.cursor.at)

module _ {E : Type 0} (read : Mode → Bor (List ℕ) → Result E Refusal) where
  -- a walker after it was asked for a piece: behind it; where none is left, as it was
  abbrev pub walker_next : Walker E → Walker E
  walker_next w = if leb (length w.bytes.now) w.cursor.at then w else record w { cursor = record { at = (piece_at (read w.mode) w.bytes w.cursor.at).end } }

  -- what a walker that is asked for a piece gives, and the walker afterwards
  abbrev pub NextGives : Walker E → Option (Piece E) → Walker E → Type 0
  NextGives old answer new = YieldsFirst (walker_left read) old answer new × (new ≡ walker_next old)

-- docs/FORMAT.md, "One bad entry". What stays of an upload where another differs from it inside some entries, for a kind of entry.
use Rattle.std.specs.Prelude.{ℕ, List, Some, Result}
use Rattle.std.specs.Borrow.{Bor}
use Rattle.refusal.specs.declared.Refusal.{Refusal}
use Rattle.entry.specs.Alike.{DiffersInside}
use Rattle.walk.specs.declared.Piece.{Piece}
use Rattle.walk.specs.Mapped.{map_ok}
use Rattle.walk.specs.Step.{parse_of, step_at}
use Rattle.walk.specs.Pieces.{pieces}
use Rattle.walk.specs.Theorems.{cursor_of}
use Rattle.index.specs.Index.{indexing}
use Rattle.regrown.specs.Regrown.{Tells, lying}
use Rattle.regrown.specs.Tells.{by_answer, tells}
use Rattle.damage.specs.Stays.{StepsStay, ParsesStay, PiecesStay, IndexStays}
use Rattle.damage.specs.Salvaged.{kept_entries, dropped_runs, SalvageStays}

-- of two versions in the same place in memory, as before a damage and after it
abbrev pub InPlace : (Bor (List ℕ) → Bor (List ℕ) → List ℕ → Type 0) → Type 0
InPlace P = (m : ℕ × ℕ) (s t places : List ℕ) → DiffersInside s t places → P (lying m s) (lying m t) places

-- of two versions wherever they lie
abbrev pub Anywhere : (Bor (List ℕ) → Bor (List ℕ) → List ℕ → Type 0) → Type 0
Anywhere P = (s t : Bor (List ℕ)) (places : List ℕ) → DiffersInside s.now t.now places → P s t places

module _ {R : Type 0} (header : ℕ) (read : Bor (List ℕ) → Result R Refusal) where
  -- in the same place in memory what is given is the same itself: each part of a record lies where it lay
  pub record StaysInPlace : Type 0 where
    pub step : InPlace (StepsStay (step_at read) cursor_of (λ x. x))
    pub parse : InPlace (ParsesStay (parse_of header read) (λ x. x))
    pub piece : InPlace (PiecesStay (pieces read) (λ p. p))
    pub salvage : InPlace (SalvageStays (kept_entries read) (dropped_runs read))
    pub index : InPlace (IndexStays (indexing read))

  module _ {S : Type 0} (length_of : R → ℕ) (told : R → S) where
    -- what a piece tells: a record with its entry's length or a refusal by its number and figures, and where the next piece begins
    abbrev pub piece_tells : Piece R → Tells S
    piece_tells p = by_answer length_of told p.end (Some p.answer)

    -- wherever the two lie, what is told is the same
    pub record StaysAnywhere : Type 0 where
      pub step : Anywhere (StepsStay (step_at read) cursor_of (tells length_of told))
      pub parse : Anywhere (ParsesStay (parse_of header read) (map_ok told))
      pub piece : Anywhere (PiecesStay (pieces read) piece_tells)
      pub salvage : Anywhere (SalvageStays (kept_entries read) (dropped_runs read))
      pub index : Anywhere (IndexStays (indexing read))

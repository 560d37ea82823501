-- docs/FORMAT.md, "Salvage". What a salvage writes, by the pieces of an upload.
use Rattle.std.specs.Prelude.{ℕ, ◌-◌, List, [], ◌∷◌, ◌++◌, ltb, length, Ok, Err, if◌then◌else◌}
use Rattle.std.specs.Prelude.{Result}
use Rattle.std.specs.Borrow.{Bor}
use Rattle.le.specs.Le.{part}
use Rattle.refusal.specs.Refusal.{limit, figures_of}
use Rattle.refusal.specs.declared.Refusal.{Refusal}
use Rattle.refusal.specs.declared.Refusal.TheVariants.{TooLarge}
use Rattle.walk.specs.declared.Piece.{Piece}
use Rattle.walk.specs.Pieces.{pieces}
use Rattle.salvage.specs.Both.{Writings}

module _ {R : Type 0} where
  -- the bytes of a piece that was accepted, and else its run: start, length, number
  abbrev pub bytes_of : List ℕ → ℕ → ℕ → Result R Refusal → List ℕ
  bytes_of s start end (Ok r) = part s start (end - start)
  bytes_of s start end (Err why) = []

  abbrev pub run_of : ℕ → ℕ → Result R Refusal → List ℕ
  run_of start end (Ok r) = []
  run_of start end (Err why) = start ∷ (end - start) ∷ (figures_of why).number ∷ []

  -- the new upload, and the list of dropped runs
  unfoldable pub kept : List ℕ → List (Piece R) → List ℕ
  kept s [] = []
  kept s (p ∷ ps) = bytes_of s p.start p.end p.answer ++ kept s ps

  unfoldable pub dropped : List (Piece R) → List ℕ
  dropped [] = []
  dropped (p ∷ ps) = run_of p.start p.end p.answer ++ dropped ps

  -- 5; 6 for each buffer is the writer's
  unfoldable pub salvaging : (Bor (List ℕ) → Result R Refusal) → Bor (List ℕ) → Writings
  salvaging read s =
      if ltb limit (length s.now) then Err (TooLarge (length s.now))
      else Ok (kept s.now (pieces read s), dropped (pieces read s))

-- docs/FORMAT.md, "One bad entry" and "Salvage". What a salvage keeps and drops, taken apart into entries and runs, and what stays of it.
use Rattle.std.specs.Prelude.{ℕ, ◌-◌, ◌≤◌, ◌≡◌, List, [], ◌∷◌, Option, Some, None, Result, Ok, Err, length, flat_map, filter_map}
use Rattle.std.specs.Borrow.{Bor}
use Rattle.le.specs.Le.{part}
use Rattle.refusal.specs.Refusal.{limit, figures_of}
use Rattle.refusal.specs.declared.Refusal.{Refusal}
use Rattle.walk.specs.Pieces.{pieces}
use Rattle.salvage.specs.Salvage.{salvaging}
use Rattle.damage.specs.Others.{others}

-- an entry that is kept: where it began, and its bytes
pub record Kept : Type 0 where
  pub start : ℕ
  pub bytes : List ℕ

-- a run that is dropped: three slots of the list
pub record Run : Type 0 where
  pub start : ℕ
  pub long : ℕ
  pub number : ℕ

abbrev pub slots_of : Run → List ℕ
slots_of r = r.start ∷ r.long ∷ r.number ∷ []

-- what a piece brings: an entry that is kept, or a run
module _ {R : Type 0} where
  abbrev pub kept_of : List ℕ → ℕ → ℕ → Result R Refusal → Option Kept
  kept_of s start end (Ok r) = Some (record { start = start; bytes = part s start (end - start) })
  kept_of s start end (Err why) = None

  abbrev pub run_of : ℕ → ℕ → Result R Refusal → Option Run
  run_of start end (Ok r) = None
  run_of start end (Err why) = Some (record { start = start; long = end - start; number = (figures_of why).number })

  abbrev pub kept_entries : (Bor (List ℕ) → Result R Refusal) → Bor (List ℕ) → List Kept
  kept_entries read s = filter_map (λ p. kept_of s.now p.start p.end p.answer) (pieces read s)

  abbrev pub dropped_runs : (Bor (List ℕ) → Result R Refusal) → Bor (List ℕ) → List Run
  dropped_runs read s = filter_map (λ p. run_of p.start p.end p.answer) (pieces read s)

  -- these are what a salvage writes: the entries' bytes one after another, and the runs' slots
  abbrev pub SalvageWrites : (Bor (List ℕ) → Result R Refusal) → Type 0
  SalvageWrites read = (s : Bor (List ℕ)) → length s.now ≤ limit → salvaging read s ≡ Ok (flat_map (λ e. e.bytes) (kept_entries read s), flat_map slots_of (dropped_runs read s))

-- a salvage: all entries kept but those that differ are the same, in order, and so are all runs but theirs, whichever version is kept and which dropped
pub record SalvageStays (kept : Bor (List ℕ) → List Kept) (dropped : Bor (List ℕ) → List Run) (s t : Bor (List ℕ)) (places : List ℕ) : Type 0 where
  pub entries : others (λ e. e.start) places (kept s) ≡ others (λ e. e.start) places (kept t)
  pub runs : others (λ r. r.start) places (dropped s) ≡ others (λ r. r.start) places (dropped t)

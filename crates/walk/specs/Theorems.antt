-- docs/FORMAT.md, "Walking" and "Direct reading". What the theorems say.
use Rattle.std.specs.Prelude.{ℕ, ◌+◌, ◌<◌, ◌≤◌, ◌≡◌, List, map, length, Result, Some, Ok, Err}
use Rattle.std.specs.Borrow.{Bor}
use Rattle.le.specs.Le.{le4}
use Rattle.part.specs.Slice.{part}
use Rattle.refusal.specs.Refusal.{limit}
use Rattle.refusal.specs.declared.Refusal.{Refusal}
use Rattle.refusal.specs.declared.Refusal.TheVariants.{ZeroEntryLength}
use Rattle.entry.specs.Walk.{steps}
use Rattle.walk.specs.declared.Stepped.{Stepped}
use Rattle.walk.specs.Step.{parse_of, step_at}
use Rattle.walk.specs.Pieces.{piece_at, pieces}

-- the cursor beside an answer
abbrev pub cursor_of : {R : Type 0} → Stepped R → ℕ
cursor_of t = t.cursor.at

module _ {R : Type 0} (header : ℕ) (read : Bor (List ℕ) → Result R Refusal) (length_of : R → ℕ) where
  pub record Reads (s : Bor (List ℕ)) (at : ℕ) (r : R) : Type 0 where
    pub moves : (step_at read s at).cursor.at ≡ at + length_of r
    pub answers : parse_of header read (part s at (length_of r)) ≡ Ok r

  abbrev pub StepsRead : Type 0
  StepsRead = (s : Bor (List ℕ)) (at : ℕ) (r : R) → (step_at read s at).answer ≡ Some (Ok r) → Reads s at r

abbrev pub PiecesAreSteps : {R : Type 0} → (Bor (List ℕ) → Result R Refusal) → Type 0
PiecesAreSteps read = (s : Bor (List ℕ)) → pieces read s ≡ map (piece_at read s) (steps s.now)

-- bytes within the limit that begin with an entry: it claims a header at least, and no more than there is
pub record Begins (header : ℕ) (s : List ℕ) : Type 0 where
  pub within : length s ≤ limit
  pub long : header ≤ le4 s 0
  pub there : le4 s 0 ≤ length s

-- the entry alone
abbrev pub entry_of : Bor (List ℕ) → Bor (List ℕ)
entry_of s = part s 0 (le4 s.now 0)

module _ {R : Type 0} (read : Bor (List ℕ) → Result R Refusal) where
  -- the piece at a place before the end: what the step there gives, up to where it moves; where it stays, all that is left, refused with 10
  pub record IsAsStep (s : Bor (List ℕ)) (at : ℕ) : Type 0 where
    pub begins : (piece_at read s at).start ≡ at
    pub moves : at < (step_at read s at).cursor.at → ((step_at read s at).answer ≡ Some (piece_at read s at).answer) × ((piece_at read s at).end ≡ (step_at read s at).cursor.at)
    pub stays : (step_at read s at).cursor.at ≡ at → ((piece_at read s at).answer ≡ Err ZeroEntryLength) × ((piece_at read s at).end ≡ length s.now)

  abbrev pub PiecesTellSteps : Type 0
  PiecesTellSteps = (s : Bor (List ℕ)) (at : ℕ) → at < length s.now → IsAsStep s at

  -- a direct parse of them is one of the entry alone, and reads its bytes: what stands behind them changes nothing
  pub record ParsesAlone (header : ℕ) (s : Bor (List ℕ)) : Type 0 where
    pub alone : parse_of header read s ≡ parse_of header read (entry_of s)
    pub reads : parse_of header read s ≡ read (entry_of s)

  abbrev pub BehindIsUnread : ℕ → Type 0
  BehindIsUnread header = (s : Bor (List ℕ)) → Begins header s.now → ParsesAlone header s

-- docs/FORMAT.md, "Salvage". What a salvage means, by what a step tells of a record, and of why there is none.
use Rattle.std.specs.Prelude.{ℕ, suc, ◌+◌, ◌*◌, ◌<◌, ◌≤◌, ◌≡◌, List, [], ◌∷◌, ◌++◌, map, length, take, drop, Result, Ok, Err}
use Rattle.std.specs.Borrow.{Bor}
use Rattle.le.specs.Le.{part}
use Rattle.refusal.specs.Refusal.{limit}
use Rattle.refusal.specs.declared.Figures.{Figures}
use Rattle.refusal.specs.declared.Refusal.{Refusal}
use Rattle.refusal.specs.declared.Refusal.TheVariants.{TooLarge, OutputTooSmall}
use Rattle.entry.specs.Walk.{steps, walk}
use Rattle.walk.specs.Step.{step_at}
use Rattle.walk.specs.Theorems.{cursor_of}
use Rattle.walk.specs.Pieces.{pieces}
use Rattle.index.specs.Index.{starts}
use Rattle.regrown.specs.Regrown.{Tells, Entry, Refused, End, lying}
use Rattle.regrown.specs.Tells.{tells}
use Rattle.salvage.specs.declared.Salvaged.{Salvaged}
use Rattle.salvage.specs.Both.{WritesBoth}
use Rattle.salvage.specs.Salvage.{salvaging}

-- what a walk told, without its refusals: its records one after another from a place on, and then the end
unfoldable pub relaid : {S : Type 0} → ℕ → List (Tells S) → List (Tells S)
relaid at [] = End at ∷ []
relaid at (Entry r size next ∷ more) = Entry r size (at + size) ∷ relaid (at + size) more
relaid at (Refused figures next ∷ more) = relaid at more
relaid at (End next ∷ more) = relaid at more

-- the answer where these bytes are to be kept and these slots to be listed, in cases of which exactly one holds: 6 for the upload, then 6 for the list, each with what is needed and what is lent; else what was written
pub record Answers (out runs new slots : List ℕ) (r : Result Salvaged Refusal) : Type 0 where
  pub few_bytes : length out < length new → r ≡ Err (OutputTooSmall (length new) (length out))
  pub few_slots : length new ≤ length out → length runs < length slots → r ≡ Err (OutputTooSmall (length slots) (length runs))
  pub enough : length new ≤ length out → length slots ≤ length runs → r ≡ Ok (record { bytes = length new; slots = length slots })

-- `read` is a mode's reader of an entry's own bytes, `Reason` the numbers that a step within an upload of no more than the limit is refused with
module _ {R S : Type 0} (read : Bor (List ℕ) → Result R Refusal) (length_of : R → ℕ) (told : R → S) (Reason : ℕ → Type 0) where
  -- what a step from a place tells
  abbrev pub told_at : Bor (List ℕ) → ℕ → Tells S
  told_at s at = tells length_of told (step_at read s at)

  -- An upload from a place on, piece by piece: where the entries that are kept begin, their bytes one after another, and the slots of the runs that are
  -- dropped. No piece is empty, each begins where the one before it ended, and the last ends where the upload ends
  pub data Cover (s : Bor (List ℕ)) : ℕ → List ℕ → List ℕ → List ℕ → Type 0 where
    done : Cover s (length s.now) [] [] []
    -- a step that tells a record: its entry
    entry : {at long : ℕ} {more new runs : List ℕ} {r : S}
        → 0 < long → told_at s at ≡ Entry r long (at + long)
        → Cover s (at + long) more new runs → Cover s at (at ∷ more) (part s.now at long ++ new) runs
    -- a refused step: what it passed over, under its own number
    run : {at long : ℕ} {more new runs : List ℕ} {why : Figures}
        → 0 < long → told_at s at ≡ Refused why (at + long) → Reason why.number
        → Cover s (at + long) more new runs → Cover s at more new (at ∷ long ∷ why.number ∷ runs)
    -- a refused step that stays where it is: all that is left, under 10, and nothing follows
    zero_claim : {at long : ℕ} {more new runs : List ℕ} {why : Figures}
        → 0 < long → told_at s at ≡ Refused why at → at + long ≡ length s.now
        → Cover s (at + long) more new runs → Cover s at more new (at ∷ long ∷ 10 ∷ runs)

  -- there is one cover: it decides what is kept and what is listed
  abbrev pub CoverOnce : Type 0
  CoverOnce = (s : Bor (List ℕ)) (at : ℕ) (more new runs more' new' runs' : List ℕ) → Cover s at more new runs → Cover s at more' new' runs' → (more ≡ more') × (new ≡ new') × (runs ≡ runs')

  -- what the walk over an upload, wherever it lies, tells in at most so many steps
  abbrev pub walk_told : ℕ × ℕ → List ℕ → ℕ → List (Tells S)
  walk_told m s most = map (tells length_of told) (walk (step_at read) cursor_of (lying m s) 0 most)

  -- an upload, what was kept of it, and the runs that were dropped
  pub record Salvages (s : Bor (List ℕ)) (new runs : List ℕ) : Type 0 where
    -- they are the whole of it, without overlap, and the entries kept are those that the index of starts names
    pub covered : Cover s 0 (starts (pieces read s)) new runs
    -- where nothing was dropped the same bytes come back
    pub undamaged : runs ≡ [] → new ≡ s.now
    -- the walk over what was kept tells the records that the steps over the upload told, and then the end; more steps tell nothing more
    pub walked : (m : ℕ × ℕ) (spare : ℕ) → walk_told m new (suc (length (starts (pieces read s)) + spare)) ≡ relaid 0 (map (told_at s) (steps s.now))
    -- a second salvage drops nothing and gives the same bytes
    pub again : (m : ℕ × ℕ) → salvaging read (lying m new) ≡ Ok (new, [])

  -- where a salvage answers that it wrote so many bytes and slots: they are there, and what stands behind them is as it was
  pub record Wrote (s : Bor (List ℕ)) (out runs out' runs' : List ℕ) (bytes slots : ℕ) : Type 0 where
    pub there : (bytes ≤ length out') × (slots ≤ length runs')
    pub salvages : Salvages s (take bytes out') (take slots runs')
    pub behind : (drop bytes out' ≡ drop bytes out) × (drop slots runs' ≡ drop slots runs)

  -- above the limit 5; within it there is what is kept and what is listed, and they decide. It is done if it is lent as many bytes as the upload has and three slots for every step
  pub record Meant (s : Bor (List ℕ)) (out runs out' runs' : List ℕ) (r : Result Salvaged Refusal) : Type 0 where
    pub too_large : limit < length s.now → r ≡ Err (TooLarge (length s.now))
    pub within : length s.now ≤ limit → (new : List ℕ) × (slots : List ℕ) × Salvages s new slots × Answers out runs new slots r
    pub wrote_it : (bytes slots : ℕ) → r ≡ Ok (record { bytes = bytes; slots = slots }) → Wrote s out runs out' runs' bytes slots
    pub refused : (why : Refusal) → r ≡ Err why → (out' ≡ out) × (runs' ≡ runs)
    pub done_it : length s.now ≤ limit → length s.now ≤ length out → 3 * length (steps s.now) ≤ length runs → (bytes : ℕ) × (slots : ℕ) × (r ≡ Ok (record { bytes = bytes; slots = slots }))

  abbrev pub SalvageMeant : Type 0
  SalvageMeant = (s : Bor (List ℕ)) (out runs out' runs' : List ℕ) (r : Result Salvaged Refusal) → WritesBoth (salvaging read s) out runs out' runs' r → Meant s out runs out' runs' r

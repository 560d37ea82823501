-- docs/FORMAT.md, "Fit records". For a kind of entry: fit records written one after another, each entry grown by any bytes at its end, come back from the walk.
use Rattle.std.specs.Prelude.{ℕ, suc, ◌+◌, ◌-◌, ◌≤◌, ◌≡◌, List, [], ◌∷◌, ◌++◌, map, ltb, leb, eqb, length, take, drop, if◌then◌else◌}
use Rattle.std.specs.Borrow.{Bor}
use Rattle.le.specs.Le.{bytes4}
use Rattle.refusal.specs.Refusal.{limit, numbered}
use Rattle.refusal.specs.declared.Figures.{Figures}
use Rattle.entry.specs.Walk.{walk}

-- a record with its entry's length, a refusal by its number and figures, or the end; each with the place where the next step begins
pub data Tells (S : Type 0) : Type 0 where
  Entry : S → ℕ → ℕ → Tells S
  Refused : Figures → ℕ → Tells S
  End : ℕ → Tells S

-- bytes that lie at a place in memory
abbrev pub lying : ℕ × ℕ → List ℕ → Bor (List ℕ)
lying m s = record { ref_ptr = m; now = s }

-- an entry with bytes added at its end and its length raised by as many
unfoldable pub grown : List ℕ → List ℕ → List ℕ
grown e extra = bytes4 (length e + length extra) ++ (drop 4 e ++ extra)

-- a fit record and the bytes that its entry is grown by
pub record Grown {R : Type 0} (Fit : R → Type 0) : Type 0 where
  pub parts : R
  pub extra : List ℕ
  pub fit : Fit parts

-- `written` gives the bytes that the writer writes of a record
module _ {R : Type 0} (Fit : R → Type 0) (written : R → List ℕ) where
  abbrev pub entry_of : Grown Fit → List ℕ
  entry_of g = grown (written g.parts) g.extra

  abbrev pub upload : List (Grown Fit) → List ℕ
  upload [] = []
  upload (g ∷ gs) = entry_of g ++ upload gs

-- what a cut is refused with, k bytes into an entry of so many bytes that starts at a place
abbrev pub cut_figures : ℕ → ℕ → ℕ → Figures
cut_figures at k size = if ltb k 4 then numbered 2 (at + 4) (at + k) else numbered 3 size k

-- `meant` is what a record means, with the bytes that its entry is grown by
module _ {R S : Type 0} (Fit : R → Type 0) (written : R → List ℕ) (meant : R → List ℕ → S) where
  abbrev size_of : Grown Fit → ℕ
  size_of g = length (entry_of Fit written g)

  -- the records in order, each once, from a place on, and then the end
  abbrev pub comes_back : ℕ → List (Grown Fit) → List (Tells S)
  comes_back at [] = End at ∷ []
  comes_back at (g ∷ gs) = Entry (meant g.parts g.extra) (size_of g) (at + size_of g) ∷ comes_back (at + size_of g) gs

  -- the same of the first k bytes: the records before the cut, then one refusal, none where the cut falls between entries, then the end
  unfoldable pub cut_back : ℕ → ℕ → List (Grown Fit) → List (Tells S)
  cut_back at k [] = End at ∷ []
  cut_back at k (g ∷ gs) =
      if leb (size_of g) k then Entry (meant g.parts g.extra) (size_of g) (at + size_of g) ∷ cut_back (at + size_of g) (k - size_of g) gs
      else if eqb k 0 then End at ∷ []
      else Refused (cut_figures at k (size_of g)) (at + k) ∷ End (at + k) ∷ []

-- `step` and `cursor` are the code's step and the cursor beside its answer; `told` is what an answer tells
module _ {R S T : Type 0} (Fit : R → Type 0) (written : R → List ℕ) (meant : R → List ℕ → S) (step : Bor (List ℕ) → ℕ → T) (cursor : T → ℕ) (told : T → Tells S) where
  -- what the walk over an upload, wherever it lies, tells from its start on, in at most so many steps
  abbrev pub told_by : ℕ × ℕ → List ℕ → ℕ → List (Tells S)
  told_by m s most = map told (walk step cursor (lying m s) 0 most)

  -- whole, and cut anywhere; more steps tell nothing more
  pub record Comes (m : ℕ × ℕ) (gs : List (Grown Fit)) : Type 0 where
    pub all : (spare : ℕ) → told_by m (upload Fit written gs) (suc (length gs + spare)) ≡ comes_back Fit written meant 0 gs
    pub cut : (k spare : ℕ) → k ≤ length (upload Fit written gs) → told_by m (take k (upload Fit written gs)) (suc (suc (length gs + spare))) ≡ cut_back Fit written meant 0 k gs

  abbrev pub ComeBack : Type 0
  ComeBack = (m : ℕ × ℕ) (gs : List (Grown Fit)) → length (upload Fit written gs) ≤ limit → Comes m gs

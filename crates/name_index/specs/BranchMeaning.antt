-- docs/FORMAT.md, "Name index". What finding and the branch of a text mean: the entries that have the name, or whose names begin so, when each is read by itself.
use Rattle.std.specs.Borrow.{Bor}
use Rattle.std.specs.Prelude.{ℕ, ◌<◌, ◌≤◌, ◌≡◌, true, List, [], ◌∷◌, ◌++◌, Result, Ok, Err, length, take, drop}
use Rattle.std.specs.List.Sorted.{IsPermutation}
use Rattle.part.specs.Slice.{part}
use Rattle.refusal.specs.Refusal.{limit}
use Rattle.refusal.specs.declared.Refusal.{Refusal}
use Rattle.refusal.specs.declared.Refusal.TheVariants.{TooLarge, OutputTooSmall, NameNotFound}
use Rattle.names.specs.Meaning.{SameLetters}
use Rattle.entry.specs.Walk.{steps}
use Rattle.writing.specs.Writing.{Writes}
use Rattle.walk.specs.Step.{parse_of}
use Rattle.name_order.specs.declared.places.NamePlaces.{NamePlaces}
use Rattle.name_order.specs.Letters.{IsInNameOrder}
use Rattle.name_order.specs.Branch.{IsRun}
use Rattle.name_find.specs.Find.{is_named}
use Rattle.name_index.specs.Index.{name_indexing, Halves}
use Rattle.name_index.specs.Branching.{branching, HalvesBranch}

module _ {R : Type 0} (header : ℕ) (read : Bor (List ℕ) → Result R Refusal) (length_of : R → ℕ) (name_of : R → List ℕ) (s : Bor (List ℕ)) where
  -- an entry of that name begins at a place
  pub record HasName (name : List ℕ) (at : ℕ) : Type 0 where
    pub entry : R
    pub alone : parse_of header read (part s at (length_of entry)) ≡ Ok entry
    pub same : SameLetters (name_of entry) name

  -- what halving answers through any slots: 5 above the limit, and within it 13, or one of the slots that has the name
  pub data Halved (slots name : List ℕ) : Result ℕ Refusal → Type 0 where
    too_large : limit < length s.now → Halved slots name (Err (TooLarge (length s.now)))
    not_found : length s.now ≤ limit → Halved slots name (Err NameNotFound)
    found : {at : ℕ} → length s.now ≤ limit → IsRun slots (at ∷ []) → HasName name at → Halved slots name (Ok at)

  -- an entry begins at a place whose name begins with a text
  pub record HasBranch (text : List ℕ) (at : ℕ) : Type 0 where
    pub entry : R
    pub alone : parse_of header read (part s at (length_of entry)) ≡ Ok entry
    pub front : List ℕ
    pub behind : List ℕ
    pub name : name_of entry ≡ front ++ behind
    pub same : SameLetters front text

  -- those of some places at which one does, in their order, each as often as it stands there
  pub data Picks (text : List ℕ) : List ℕ → List ℕ → Type 0 where
    done : Picks text [] []
    picked : {at : ℕ} {places run : List ℕ} → HasBranch text at → Picks text places run → Picks text (at ∷ places) (at ∷ run)
    passed : {at : ℕ} {places run : List ℕ} → ¬ HasBranch text at → Picks text places run → Picks text (at ∷ places) run

  -- the answer to a branch that is asked through any slots, in three cases of which exactly one holds: above the limit; too few places lent; neither
  pub record Answers (slots text old new : List ℕ) (r : Result ℕ Refusal) : Type 0 where
    pub too_large : limit < length s.now → r ≡ Err (TooLarge (length s.now))
    pub some : length s.now ≤ limit → (run : List ℕ) × Picks text slots run
    pub too_few : (run : List ℕ) → length s.now ≤ limit → Picks text slots run → length old < length run → r ≡ Err (OutputTooSmall (length run) (length old))
    pub enough : (run : List ℕ) → length s.now ≤ limit → Picks text slots run → length run ≤ length old → (r ≡ Ok (length run)) × (new ≡ run ++ drop (length run) old)
    pub refused : (why : Refusal) → r ≡ Err why → new ≡ old

  -- asked through a name index the branch is a run of neighbours in the order of the names, with every step of the walk at which an entry of it begins, each once; by halving too
  pub record InIndex (w : NamePlaces) (slots text : List ℕ) : Type 0 where
    pub run : List ℕ
    pub neighbours : IsRun slots run
    pub in_order : IsInNameOrder w s.now run
    pub all : List ℕ
    pub every : Picks text (steps s.now) all
    pub same : IsPermutation all run
    pub asked : (old new : List ℕ) (r : Result ℕ Refusal) → Writes (branching w read s slots text) old new r → Writes (Ok run) old new r
    pub halved : (old new : List ℕ) (r : Result ℕ Refusal) → HalvesBranch w read s slots text old new r → Writes (Ok run) old new r

module _ {R : Type 0} (w : NamePlaces) (header : ℕ) (read : Bor (List ℕ) → Result R Refusal) (length_of : R → ℕ) (name_of : R → List ℕ) where
  -- what it is that a name is found at, and what halving answers
  pub record NamedMeant : Type 0 where
    pub is : (s : Bor (List ℕ)) (name : List ℕ) (at : ℕ) → is_named name_of read s name at ≡ true → HasName header read length_of name_of s name at
    pub only : (s : Bor (List ℕ)) (name : List ℕ) (at : ℕ) → length s.now ≤ limit → HasName header read length_of name_of s name at → is_named name_of read s name at ≡ true
    pub halved : (s : Bor (List ℕ)) (slots name : List ℕ) (r : Result ℕ Refusal) → Halves w read name_of s slots name r → Halved header read length_of name_of s slots name r

  abbrev pub BranchMeant : Type 0
  BranchMeant = (s : Bor (List ℕ)) (slots text old new : List ℕ) (r : Result ℕ Refusal) → Writes (branching w read s slots text) old new r → Answers header read length_of name_of s slots text old new r

  abbrev pub BranchInIndex : Type 0
  BranchInIndex = (s : Bor (List ℕ)) (old new : List ℕ) (n : ℕ) → Writes (name_indexing w read s) old new (Ok n) → (text : List ℕ) → InIndex header read length_of name_of s w (take n new) text

-- docs/FORMAT.md, "One bad entry", "Finding" and "Name index". What is found by its name, of any kind of entry, where another upload differs inside some entries.
use Rattle.std.specs.Prelude.{ℕ, ◌≡◌, true, false, List, Result, Ok, Err, take}
use Rattle.std.specs.Borrow.{Bor}
use Rattle.refusal.specs.declared.Mode.{Mode}
use Rattle.refusal.specs.declared.Refusal.{Refusal}
use Rattle.refusal.specs.declared.Refusal.TheVariants.{NameNotFound}
use Rattle.entry.specs.Alike.{among, DiffersInside}
use Rattle.entry.specs.Walk.{steps}
use Rattle.writing.specs.Writing.{Writes}
use Rattle.walk.specs.Step.{step_at}
use Rattle.index.specs.Index.{indexing}
use Rattle.regrown.specs.Tells.{tells}
use Rattle.name_order.specs.declared.places.NamePlaces.{NamePlaces}
use Rattle.name_find.specs.Meaning.{HasName}
use Rattle.name_index.specs.Index.{name_indexing, InOrder}

-- the slots that building wrote, by what it is to write
pub data AreBuilt (slots : Result (List ℕ) Refusal) : List ℕ → Type 0 where
  built : {old new : List ℕ} {n : ℕ} → Writes slots old new (Ok n) → AreBuilt slots (take n new)

-- of a kind of entry: its header's length, where it has its name, what reading its own bytes gives, what a record carries as its length and its name, and what it tells
module _ {R S : Type 0} (header : ℕ) (w : NamePlaces) (read : Mode → Bor (List ℕ) → Result R Refusal) (length_of : R → ℕ) (name_of : R → List ℕ) (told : R → S) where
  -- a step begins there, at none of the entries that differ, and tells the same in both
  pub record SameThere (mode : Mode) (s t : Bor (List ℕ)) (places : List ℕ) (at : ℕ) : Type 0 where
    pub reached : among (steps s.now) at ≡ true
    pub elsewhere : among places at ≡ false
    pub same : tells length_of told (step_at (read mode) s at) ≡ tells length_of told (step_at (read mode) t at)

  -- what finding answers without an index and through one, and what it may answer by halving
  module _ (walked : Mode → Bor (List ℕ) → List ℕ → Result ℕ Refusal) (indexed : Mode → Bor (List ℕ) → List ℕ → List ℕ → Result ℕ Refusal) (halves : Mode → Bor (List ℕ) → List ℕ → List ℕ → Result ℕ Refusal → Type 0) where
    -- what halving answers in the second through the name index of the first, whose slots may be out of order there: an entry that has the name in both, or 13;
    -- and where the slots are in order there too, what is found in the first
    pub record HalvesThere (mode : Mode) (s t : Bor (List ℕ)) (places slots name : List ℕ) (r : Result ℕ Refusal) : Type 0 where
      pub first : (at : ℕ) → r ≡ Ok at → HasName header read length_of name_of mode s name at
      pub second : (at : ℕ) → r ≡ Ok at → HasName header read length_of name_of mode t name at
      pub there : (at : ℕ) → r ≡ Ok at → SameThere mode s t places at
      pub refused : (why : Refusal) → r ≡ Err why → why ≡ NameNotFound
      pub ordered : InOrder w (read mode) t slots → r ≡ walked mode s name

    -- finding a name in both: the same start or the same refusal, without an index, through each upload's own, through the index of one in the other, and by halving
    -- through each upload's own name index
    pub record FindsAlike (mode : Mode) (s t : Bor (List ℕ)) (places name : List ℕ) : Type 0 where
      pub walk : walked mode s name ≡ walked mode t name
      pub own : (a b : List ℕ) → AreBuilt (indexing (read mode) s) a → AreBuilt (indexing (read mode) t) b → indexed mode s a name ≡ indexed mode t b name
      pub crossed : (a : List ℕ) → AreBuilt (indexing (read mode) s) a → indexed mode t a name ≡ indexed mode s a name
      pub there : (at : ℕ) → walked mode s name ≡ Ok at → SameThere mode s t places at
      pub halved :
          (a b : List ℕ) → AreBuilt (name_indexing w (read mode) s) a → AreBuilt (name_indexing w (read mode) t) b
          → (q r : Result ℕ Refusal) → halves mode s a name q → halves mode t b name r → q ≡ r
      pub halved_crossed :
          (a : List ℕ) → AreBuilt (name_indexing w (read mode) s) a
          → (r : Result ℕ Refusal) → halves mode t a name r → HalvesThere mode s t places a name r

    -- of a name that no entry which differs has, in neither version
    abbrev pub FindingStays : Type 0
    FindingStays =
        (mode : Mode) (s t : Bor (List ℕ)) (places name : List ℕ)
        → DiffersInside s.now t.now places
        → ((p : ℕ) → among places p ≡ true → HasName header read length_of name_of mode s name p → ⊥)
        → ((p : ℕ) → among places p ≡ true → HasName header read length_of name_of mode t name p → ⊥)
        → FindsAlike mode s t places name

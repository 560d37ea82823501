-- docs/FORMAT.md, "Finding". What finding means, in a mode: the name is that of a record which its entry gives when it is read by itself.
use Rattle.std.specs.Prelude.{ℕ, ◌<◌, ◌≤◌, ◌≡◌, true, false, List, ◌∷◌, ◌++◌, All, length, take, Result, Ok, Err, ok_or}
use Rattle.std.specs.List.{find as first_of, list_any}
use Rattle.std.specs.Borrow.{Bor}
use Rattle.part.specs.Slice.{part}
use Rattle.refusal.specs.Refusal.{limit}
use Rattle.refusal.specs.declared.Mode.{Mode}
use Rattle.refusal.specs.declared.Refusal.{Refusal}
use Rattle.refusal.specs.declared.Refusal.TheVariants.{TooLarge, ZeroEntryLength, NameNotFound}
use Rattle.names.specs.Names.{same_name}
use Rattle.entry.specs.Walk.{stands, steps}
use Rattle.writing.specs.Writing.{Writes}
use Rattle.walk.specs.Step.{parse_of}
use Rattle.index.specs.Index.{indexing}

-- of a kind of entry: its header's length, what reading its own bytes gives, and what a record carries as its length and its name
module _ {R : Type 0} (header : ℕ) (read : Mode → Bor (List ℕ) → Result R Refusal) (length_of : R → ℕ) (name_of : R → List ℕ) where
  -- an entry of that name begins at a place
  pub record HasName (mode : Mode) (s : Bor (List ℕ)) (name : List ℕ) (at : ℕ) : Type 0 where
    pub entry : R
    pub alone : parse_of header (read mode) (part s at (length_of entry)) ≡ Ok entry
    pub named : same_name (name_of entry) name ≡ true

  -- none of some places has it
  abbrev pub Nowhere : Mode → Bor (List ℕ) → List ℕ → List ℕ → Type 0
  Nowhere mode s name places = All (λ at. ¬ HasName mode s name at) places

  -- a place is one of some places, has the name, and none before it has
  pub record Finds (mode : Mode) (s : Bor (List ℕ)) (name places : List ℕ) (at : ℕ) : Type 0 where
    pub before : List ℕ
    pub behind : List ℕ
    pub among : places ≡ before ++ (at ∷ behind)
    pub has : HasName mode s name at
    pub first : Nowhere mode s name before

  -- the answer of a name that is looked for at some places, in cases of which exactly one holds: above the limit; the first of them that has it; none has it, which is refused as `other`
  pub record Answers (mode : Mode) (s : Bor (List ℕ)) (name places : List ℕ) (other : Refusal) (r : Result ℕ Refusal) : Type 0 where
    pub too_large : limit < length s.now → r ≡ Err (TooLarge (length s.now))
    pub found : (at : ℕ) → length s.now ≤ limit → Finds mode s name places at → r ≡ Ok at
    pub nowhere : length s.now ≤ limit → Nowhere mode s name places → r ≡ Err other

  -- what finding means, without an index and through one
  module _ (walked : Mode → Bor (List ℕ) → List ℕ → Result ℕ Refusal) (indexed : Mode → Bor (List ℕ) → List ℕ → List ℕ → Result ℕ Refusal) where
    -- what is found is the first that has the name: of the steps of the walk, and through an index of the slots, whatever they hold
    pub record FoundIsFirst : Type 0 where
      pub walk : (mode : Mode) (s : Bor (List ℕ)) (name : List ℕ) (at : ℕ) → walked mode s name ≡ Ok at → Finds mode s name (steps s.now) at
      pub index : (mode : Mode) (s : Bor (List ℕ)) (slots name : List ℕ) (at : ℕ) → indexed mode s slots name ≡ Ok at → Finds mode s name slots at

    -- where an upload within the limit is refused, with 13 or with 10, no step of its walk has the name, and through an index no slot
    pub record RefusedIsNowhere : Type 0 where
      pub walk : (mode : Mode) (s : Bor (List ℕ)) (name : List ℕ) (why : Refusal) → length s.now ≤ limit → walked mode s name ≡ Err why → Nowhere mode s name (steps s.now)
      pub index : (mode : Mode) (s : Bor (List ℕ)) (slots name : List ℕ) (why : Refusal) → length s.now ≤ limit → indexed mode s slots name ≡ Err why → Nowhere mode s name slots

    -- without an index the steps of the walk are looked at, and where none has the name it is 10 where one of them stands, else 13; through an index the slots, and then it is 13
    pub record FindMeant : Type 0 where
      pub stood : (mode : Mode) (s : Bor (List ℕ)) (name : List ℕ) → list_any (stands s.now) (steps s.now) ≡ true → Answers mode s name (steps s.now) ZeroEntryLength (walked mode s name)
      pub walk : (mode : Mode) (s : Bor (List ℕ)) (name : List ℕ) → list_any (stands s.now) (steps s.now) ≡ false → Answers mode s name (steps s.now) NameNotFound (walked mode s name)
      pub index : (mode : Mode) (s : Bor (List ℕ)) (slots name : List ℕ) → Answers mode s name slots NameNotFound (indexed mode s slots name)

  -- useless finding is not so: one that refuses every name, and one that answers a place unseen; through an index too, where the first slot is answered unseen as well
  pub record UselessShutOut : Type 0 where
    pub refuses : (why : Refusal) (indexed : Mode → Bor (List ℕ) → List ℕ → List ℕ → Result ℕ Refusal) → RefusedIsNowhere (λ mode s name. Err why) indexed → ⊥
    pub answers : (at : ℕ) (indexed : Mode → Bor (List ℕ) → List ℕ → List ℕ → Result ℕ Refusal) → FoundIsFirst (λ mode s name. Ok at) indexed → ⊥
    pub refuses_slots : (why : Refusal) (walked : Mode → Bor (List ℕ) → List ℕ → Result ℕ Refusal) → RefusedIsNowhere walked (λ mode s slots name. Err why) → ⊥
    pub answers_slots : (at : ℕ) (walked : Mode → Bor (List ℕ) → List ℕ → Result ℕ Refusal) → FoundIsFirst walked (λ mode s slots name. Ok at) → ⊥
    pub answers_first : (why : Refusal) (walked : Mode → Bor (List ℕ) → List ℕ → Result ℕ Refusal) → FoundIsFirst walked (λ mode s slots name. ok_or (first_of (λ at. true) slots) why) → ⊥

module _ (walked : Mode → Bor (List ℕ) → List ℕ → Result ℕ Refusal) (indexed : Mode → Bor (List ℕ) → List ℕ → List ℕ → Result ℕ Refusal) where
  -- a name in any case is found as in any other, without an index and through any slots
  pub record AnyCase : Type 0 where
    pub walk : (mode : Mode) (s : Bor (List ℕ)) (name typed : List ℕ) → same_name name typed ≡ true → walked mode s typed ≡ walked mode s name
    pub index : (mode : Mode) (s : Bor (List ℕ)) (slots name typed : List ℕ) → same_name name typed ≡ true → indexed mode s slots typed ≡ indexed mode s slots name

  -- through an index that was built a name is found as without one
  abbrev pub SameFind : {R : Type 0} → (Mode → Bor (List ℕ) → Result R Refusal) → Type 0
  SameFind read = (mode : Mode) (s : Bor (List ℕ)) (old new : List ℕ) (n : ℕ) → Writes (indexing (read mode) s) old new (Ok n) → (name : List ℕ) → indexed mode s (take n new) name ≡ walked mode s name

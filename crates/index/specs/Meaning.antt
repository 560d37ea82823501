-- docs/FORMAT.md, "Index". What an index means.
use Rattle.std.specs.Borrow.{Bor}
use Rattle.std.specs.Prelude.{ℕ, suc, ◌<◌, ◌≤◌, ◌≡◌, true, false, List, [], ◌∷◌, Result, Ok, Err, length, take, drop, filter, count_by}
use Rattle.std.specs.List.{list_any}
use Rattle.refusal.specs.Refusal.{limit}
use Rattle.refusal.specs.declared.Refusal.{Refusal}
use Rattle.refusal.specs.declared.Refusal.TheVariants.{TooLarge, OutputTooSmall, ZeroEntryLength}
use Rattle.entry.specs.Walk.{stands, steps}
use Rattle.writing.specs.Writing.{Writes}
use Rattle.walk.specs.Pieces.{pieces}
use Rattle.index.specs.Index.{starts, indexing}
use Rattle.index.specs.Steps.{gives}

-- each place is above the one before it, and the first is at least so large
pub data Ascends : ℕ → List ℕ → Type 0 where
  done : {least : ℕ} → Ascends least []
  next : {least at : ℕ} {more : List ℕ} → least ≤ at → Ascends (suc at) more → Ascends least (at ∷ more)

module _ {R : Type 0} (read : Bor (List ℕ) → Result R Refusal) where
  -- the starts of an index ascend strictly, so no entry stands twice in it
  abbrev pub StartsAscend : Type 0
  StartsAscend = (s : Bor (List ℕ)) → Ascends 0 (starts (pieces read s))

  -- how many slots an index needs: one for each step of the walk that gives a record
  abbrev pub needed : Bor (List ℕ) → ℕ
  needed s = count_by (gives read s) (steps s.now)

  -- the first n slots are the index: the place of each step that gives a record, in order; it stands within the slots, and behind it they are as they were
  pub record IsIndex (s : Bor (List ℕ)) (old new : List ℕ) (n : ℕ) : Type 0 where
    pub counts : n ≡ needed s
    pub fits : n ≤ length new
    pub holds : take n new ≡ filter (gives read s) (steps s.now)
    pub behind : drop n new ≡ drop n old

  -- the answer to each upload, in four cases of which exactly one holds: above the limit; a step of its walk stands; too few slots; none of these
  pub record Meant (s : Bor (List ℕ)) (old new : List ℕ) (r : Result ℕ Refusal) : Type 0 where
    pub too_large : limit < length s.now → r ≡ Err (TooLarge (length s.now))
    pub zero_claim : length s.now ≤ limit → list_any (stands s.now) (steps s.now) ≡ true → r ≡ Err ZeroEntryLength
    pub too_few : length s.now ≤ limit → list_any (stands s.now) (steps s.now) ≡ false → length old < needed s → r ≡ Err (OutputTooSmall (needed s) (length old))
    pub enough : length s.now ≤ limit → list_any (stands s.now) (steps s.now) ≡ false → needed s ≤ length old → r ≡ Ok (needed s)
    pub built : (n : ℕ) → r ≡ Ok n → IsIndex s old new n
    pub refused : (why : Refusal) → r ≡ Err why → new ≡ old

  abbrev pub IndexMeant : Type 0
  IndexMeant = (s : Bor (List ℕ)) (old new : List ℕ) (r : Result ℕ Refusal) → Writes (indexing read s) old new r → Meant s old new r

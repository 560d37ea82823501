-- docs/FORMAT.md, "The command's text" and "Finding". What it means that an entry is found by its name.
use Rattle.std.specs.Prelude.{ℕ, ◌≡◌, List, Some, Result, Ok, Err}
use Rattle.std.specs.Borrow.{Bor}
use Rattle.refusal.specs.declared.Mode.{Mode}
use Rattle.refusal.specs.declared.Refusal.{Refusal}
use Rattle.names.specs.Meaning.{SameLetters}
use Rattle.entry.specs.Walk.{steps}
use Rattle.walk.specs.Step.{step_at}
use Rattle.name_find.specs.Find.{find}
use Rattle.name_find.specs.Meaning.{Finds}
use Rattle.report.specs.declared.Upload.{Upload}
use Rattle.finding.specs.declared.Found.{Found}
use Rattle.finding.specs.Find.{named}

-- an entry is answered, which starts there
pub record AnsweredAt {R : Type 0} (r : Result (Found R) Refusal) (place : ℕ) : Type 0 where
  pub found : Found R
  pub is : r ≡ Ok found
  pub there : found.at ≡ place

-- of a kind of entry: its header's length, what reading its own bytes gives, and what a record carries as its length and its name
module _ {R : Type 0} (header : ℕ) (read : Mode → Bor (List ℕ) → Result R Refusal) (length_of : R → ℕ) (name_of : R → List ℕ) where
  -- it starts at the first of the walk's steps that has the name, is what that step gives, and has the name letter by letter
  pub record IsFirst (u : Upload) (name : List ℕ) (f : Found R) : Type 0 where
    pub first : Finds header read length_of name_of u.mode u.bytes name (steps u.bytes.now) f.at
    pub given : (step_at (read u.mode) u.bytes f.at).answer ≡ Some (Ok f.entry)
    pub letters : SameLetters (name_of f.entry) name

  -- where finding without an index answers a place, an entry there is answered; where it refuses, that refusal; and nothing else is answered
  pub record NamedMeant : Type 0 where
    pub first : (u : Upload) (name : List ℕ) (f : Found R) → named name_of read u name ≡ Ok f → IsFirst u name f
    pub there : (u : Upload) (name : List ℕ) (at : ℕ) → find name_of (read u.mode) u.bytes name ≡ Ok at → AnsweredAt (named name_of read u name) at
    pub refused : (u : Upload) (name : List ℕ) (why : Refusal) → find name_of (read u.mode) u.bytes name ≡ Err why → named name_of read u name ≡ Err why

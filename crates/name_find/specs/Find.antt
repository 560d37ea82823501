-- docs/FORMAT.md, "Finding". Finding an entry by its name, of any kind that has one: by the name that a record carries, and what reading an entry's own bytes gives.
use Rattle.std.specs.Prelude.{ℕ, Bool, false, List, ltb, length, Option, Some, None, Result, Ok, Err, ok_or, if◌then◌else◌}
use Rattle.std.specs.List.{find as first_of, list_any}
use Rattle.std.specs.Borrow.{Bor}
use Rattle.refusal.specs.Refusal.{limit}
use Rattle.refusal.specs.declared.Refusal.{Refusal}
use Rattle.refusal.specs.declared.Refusal.TheVariants.{TooLarge, ZeroEntryLength, NameNotFound}
use Rattle.names.specs.Names.{same_name}
use Rattle.entry.specs.Walk.{stands, steps}
use Rattle.walk.specs.Step.{step_at}

module _ {R : Type 0} (name_of : R → List ℕ) where
  abbrev pub has_name : List ℕ → Option (Result R Refusal) → Bool
  has_name name None = false
  has_name name (Some (Ok r)) = same_name (name_of r) name
  has_name name (Some (Err why)) = false

  module _ (read : Bor (List ℕ) → Result R Refusal) where
    -- a step of the walk from here gives a record of that name
    unfoldable pub is_named : Bor (List ℕ) → List ℕ → ℕ → Bool
    is_named s name at = has_name name (step_at read s at).answer

    -- without an index, the first of the walk's steps: 5; a match before a zero claim is answered; else 10, else 13
    unfoldable pub find : Bor (List ℕ) → List ℕ → Result ℕ Refusal
    find s name =
        if ltb limit (length s.now) then Err (TooLarge (length s.now))
        else ok_or (first_of (is_named s name) (steps s.now)) (if list_any (stands s.now) (steps s.now) then ZeroEntryLength else NameNotFound)

    -- through an index, the first of its slots, whatever they hold: 5, else 13
    unfoldable pub find_indexed : Bor (List ℕ) → List ℕ → List ℕ → Result ℕ Refusal
    find_indexed s slots name =
        if ltb limit (length s.now) then Err (TooLarge (length s.now))
        else ok_or (first_of (is_named s name) slots) NameNotFound

-- docs/FORMAT.md, "Name index". The name index of an upload of entries of one kind, and finding through it.
use Rattle.std.specs.Borrow.{Bor}
use Rattle.std.specs.Prelude.{ℕ, ◌≡◌, true, List, Result, take, drop}
use Rattle.std.specs.List.{All}
use Rattle.std.specs.List.Sorted.{IsSortedBy}
use Rattle.refusal.specs.declared.Refusal.{Refusal}
use Rattle.walk.specs.Mapped.{map_ok}
use Rattle.index.specs.Index.{indexing}
use Rattle.index.specs.Steps.{gives}
use Rattle.name_order.specs.declared.places.NamePlaces.{NamePlaces}
use Rattle.name_order.specs.Order.{goes_first}
use Rattle.name_order.specs.Sorted.{in_order}
use Rattle.name_find.specs.Find.{find_indexed}

-- by where a kind of entry has its name, and what reading an entry's own bytes gives
module _ {R : Type 0} (w : NamePlaces) (read : Bor (List ℕ) → Result R Refusal) where
  -- what building it writes into the lent slots: 5, then 10; 6 is the writer's
  unfoldable pub name_indexing : Bor (List ℕ) → Result (List ℕ) Refusal
  name_indexing s = map_ok (in_order (goes_first w s.now)) (indexing read s)

  -- slots in the order of the names, at each of which a step gives a record
  pub record InOrder (s : Bor (List ℕ)) (slots : List ℕ) : Type 0 where
    pub sorted : IsSortedBy (goes_first w s.now) slots
    pub records : All (λ at. gives read s at ≡ true) slots

  -- what finding by halving answers, by the name that a record carries: through any slots, what is found through some one of them or through none; through slots in order, what is found through all of them
  pub record Halves (name_of : R → List ℕ) (s : Bor (List ℕ)) (slots name : List ℕ) (r : Result ℕ Refusal) : Type 0 where
    pub one : (k : ℕ) × (r ≡ find_indexed name_of read s (take 1 (drop k slots)) name)
    pub ordered : InOrder s slots → r ≡ find_indexed name_of read s slots name

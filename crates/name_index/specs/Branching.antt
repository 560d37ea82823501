-- docs/FORMAT.md, "Name index". The branch of a text, asked through slots.
use Rattle.std.specs.Prelude.{ℕ, Bool, false, List, ltb, length, filter, Result, Ok, Err, if◌then◌else◌}
use Rattle.std.specs.List.Sorted.{IsSortedBy}
use Rattle.std.specs.Borrow.{Bor}
use Rattle.refusal.specs.Refusal.{limit}
use Rattle.refusal.specs.declared.Refusal.{Refusal}
use Rattle.refusal.specs.declared.Refusal.TheVariants.{TooLarge}
use Rattle.writing.specs.Writing.{Writes}
use Rattle.index.specs.Steps.{gives}
use Rattle.name_order.specs.declared.places.NamePlaces.{NamePlaces}
use Rattle.name_order.specs.Order.{goes_first}
use Rattle.name_order.specs.Branch.{begins_at, IsRun}

module _ {R : Type 0} (w : NamePlaces) (read : Bor (List ℕ) → Result R Refusal) where
  -- a step from here gives a record, and a name stands there that begins so
  unfoldable pub in_branch : Bor (List ℕ) → List ℕ → ℕ → Bool
  in_branch s text at = if gives read s at then begins_at w s.now text at else false

  -- those of some slots, in their order, whatever they hold: 5; 6 is the writer's
  unfoldable pub branching : Bor (List ℕ) → List ℕ → List ℕ → Result (List ℕ) Refusal
  branching s slots text =
      if ltb limit (length s.now) then Err (TooLarge (length s.now))
      else Ok (filter (in_branch s text) slots)

  -- what asking by halving answers: through any slots, what is asked through some that are neighbours there; through slots in the order of the names, what is asked through all of them
  pub record HalvesBranch (s : Bor (List ℕ)) (slots text old new : List ℕ) (r : Result ℕ Refusal) : Type 0 where
    pub run : List ℕ
    pub among : IsRun slots run
    pub asked : Writes (branching s run text) old new r
    pub ordered : IsSortedBy (goes_first w s.now) slots → Writes (branching s slots text) old new r

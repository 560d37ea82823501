-- docs/FORMAT.md, "Finding". Where a kind of entry has its name.
use Rattle.std.specs.Prelude.{ℕ, ◌+◌, ◌≤◌, ◌≡◌, List, length}
use Rattle.le.specs.Le.{le2, part}
use Rattle.name_order.specs.declared.places.NamePlaces.{NamePlaces}

-- an entry's own bytes tell a name at these places, and have room for it
pub record TellsName (w : NamePlaces) (e name : List ℕ) : Type 0 where
  pub is : name ≡ part e w.name (le2 e w.length)
  pub room : w.name + le2 e w.length ≤ length e

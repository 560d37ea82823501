-- docs/FORMAT.md, "Binding": the entry that says an address is told by the place where it starts.
use Rattle.std.specs.Prelude.{ℕ, ◌+◌, ◌≤◌, ◌≡◌, List, ◌∷◌, ◌++◌, length}
use Rattle.std.specs.Borrow.{Bor}
use Rattle.bind.specs.declared.reading.Place.TheVariants.{DataType}
use Rattle.bind.specs.Reading.{behind, type_entry}
use Rattle.bind.specs.Adding.{items_of}

-- some bytes stand at a place of an upload, and end at another
pub record Stands (types s : List ℕ) (at end : ℕ) : Type 0 where
  pub ahead : List ℕ
  pub rest : List ℕ
  pub is : types ≡ ahead ++ (s ++ rest)
  pub begins : at ≡ length ahead
  pub ends : end ≡ length ahead + length s

-- a data type stands where it was found, and its members where its own bytes have them; of each the place that is told is where it stands
pub record PlacesMeant : Type 0 where
  pub data_type : (types : Bor (List ℕ)) (start : ℕ) → start ≤ length types.now → Stands types.now (behind types start).now start (length types.now)
  pub told : (types : List ℕ) (s : Bor (List ℕ)) (at end : ℕ) → Stands types s.now at end → (type_entry s end).place ≡ DataType at
  pub members : (types : List ℕ) (s : Bor (List ℕ)) (at end : ℕ) (before : List (Bor (List ℕ))) (item : Bor (List ℕ)) (later : List (Bor (List ℕ)))
      → Stands types s.now at end → items_of (type_entry s end).items.count (type_entry s end).items.bytes ≡ before ++ (item ∷ later) → (k : ℕ) × Stands types item.now k (type_entry s end).end

-- docs/FORMAT.md, "Name index". What the order of starts means, and a list that is put in it.
use Rattle.std.specs.Prelude.{ℕ, ◌≡◌, true, List}
use Rattle.std.specs.declared.cmp.Ordering.TheVariants.{Equal}
use Rattle.std.specs.Cmp.{IsTotalOrder}
use Rattle.std.specs.List.Sorted.{IsPermutation, IsSortedBy}
use Rattle.names.specs.Names.{same_name}
use Rattle.name_order.specs.declared.places.NamePlaces.{NamePlaces}
use Rattle.name_order.specs.Order.{name_cmp, start_cmp, goes_first}
use Rattle.name_order.specs.Sorted.{in_order}

-- names are ordered, and are alike exactly where they are the same name; starts are ordered, and none is alike another
pub record OrderIsTotal : Type 0 where
  pub names : IsTotalOrder name_cmp
  pub same : (a b : List ℕ) → (name_cmp a b ≡ Equal → same_name a b ≡ true) × (same_name a b ≡ true → name_cmp a b ≡ Equal)
  pub starts : (w : NamePlaces) (s : List ℕ) → IsTotalOrder (start_cmp w s)
  pub one : (w : NamePlaces) (s : List ℕ) (a b : ℕ) → start_cmp w s a b ≡ Equal → a ≡ b

-- starts put in order are the same starts, in order; and nothing else is
pub record OneOrder : Type 0 where
  pub moved : (w : NamePlaces) (s starts : List ℕ) → IsPermutation starts (in_order (goes_first w s) starts)
  pub sorted : (w : NamePlaces) (s starts : List ℕ) → IsSortedBy (goes_first w s) (in_order (goes_first w s) starts)
  pub alone : (w : NamePlaces) (s starts other : List ℕ) → IsPermutation starts other → IsSortedBy (goes_first w s) other → other ≡ in_order (goes_first w s) starts

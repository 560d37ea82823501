-- docs/FORMAT.md, "Name index". The order of a name index: by the folded name that stands at each start, and then by start.
use Rattle.std.specs.Prelude.{ℕ, ◌+◌, Bool, List}
use Rattle.std.specs.declared.cmp.Ordering.{Ordering}
use Rattle.std.specs.Ordering.{nat_cmp, ordering_then, is_lt}
use Rattle.std.specs.Cmp.Lexicographic.{slice_cmp}
use Rattle.le.specs.Le.{le2, part}
use Rattle.names.specs.Names.{folded}
use Rattle.name_order.specs.declared.places.NamePlaces.{NamePlaces}

-- the name that an entry which starts at a place tells, or what is there of it
unfoldable pub name_at : NamePlaces → List ℕ → ℕ → List ℕ
name_at w s at = part s (at + w.name) (le2 s (at + w.length))

-- the folded names, byte by byte; where one begins with all of the other, the shorter comes first
unfoldable pub name_cmp : List ℕ → List ℕ → Ordering
name_cmp a b = slice_cmp nat_cmp (folded a) (folded b)

-- of two starts, by the names there and then by the starts, so that no two are equal
unfoldable pub start_cmp : NamePlaces → List ℕ → ℕ → ℕ → Ordering
start_cmp w s a b = ordering_then (name_cmp (name_at w s a) (name_at w s b)) (nat_cmp a b)

abbrev pub goes_first : NamePlaces → List ℕ → ℕ → ℕ → Bool
goes_first w s a b = is_lt (start_cmp w s a b)

-- the name at a place comes before a name
abbrev pub named_before : NamePlaces → List ℕ → List ℕ → ℕ → Bool
named_before w s name at = is_lt (name_cmp (name_at w s at) name)

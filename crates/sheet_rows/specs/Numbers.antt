-- docs/FORMAT.md, "Sheet": the number of a cell.
use Rattle.std.specs.Prelude.{ℕ, ◌+◌, ◌-◌, ◌*◌, Bool, false, List, [], ◌∷◌, Option, Some, None, leb, if◌then◌else◌}

abbrev pub is_digit : ℕ → Bool
is_digit b = if leb 48 b then leb b 57 else false

-- the number that digits go on with behind others, whose number is given, unless it is above the most
unfoldable pub number_from : ℕ → ℕ → List ℕ → Option ℕ
number_from most n [] = Some n
number_from most n (b ∷ s) = if is_digit b then if leb (10 * n + (b - 48)) most then number_from most (10 * n + (b - 48)) s else None else None

-- at least one digit
unfoldable pub number_of : ℕ → List ℕ → Option ℕ
number_of most [] = None
number_of most (b ∷ s) = number_from most 0 (b ∷ s)

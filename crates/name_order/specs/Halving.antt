-- docs/FORMAT.md, "Name index". Halving some numbers, whatever their order is: how many of them stand before the place where it ends.
use Rattle.std.specs.Prelude.{ℕ, zero, suc, ◌+◌, ◌/◌, Bool, List, [], ◌∷◌, length, take, drop, slice_index, if◌then◌else◌}

-- in so many turns: by the one in the middle it goes on behind it, or before it
unfoldable pub halve : (ℕ → Bool) → ℕ → List ℕ → ℕ
halve before zero xs = 0
halve before (suc turns) [] = 0
halve before (suc turns) (x ∷ xs) =
    let all : List ℕ = x ∷ xs in
    let middle : ℕ = length all / 2 in
    if before (slice_index all middle) then middle + 1 + halve before turns (drop (middle + 1) all)
    else halve before turns (take middle all)

-- to the end
abbrev pub halved : (ℕ → Bool) → List ℕ → ℕ
halved before xs = halve before (length xs) xs

-- What is left of some paths.
use Rattle.std.proofs.Common.{ℕ, ◌+◌, ◌<◌, ◌≡◌, refl, List, ◌∷◌, length, get_or, drop, drop-cons, add-one}

pub left_at : {X : Type 0} (xs : List X) (k : ℕ) (d : X) → k < length xs → drop k xs ≡ get_or xs k d ∷ drop (k + 1) xs
left_at xs k d h = rw (add-one, drop-cons xs k d) refl

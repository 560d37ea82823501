-- docs/FORMAT.md, "One bad entry". Of things that begin at places, those that begin at none of the places where entries differ.
use Rattle.std.specs.Prelude.{ℕ, List, not, filter}
use Rattle.entry.specs.Alike.{among}

abbrev pub others : {X : Type 0} → (X → ℕ) → List ℕ → List X → List X
others begins places xs = filter (λ x. not (among places (begins x))) xs

-- Where the next step passed, so did the one before it.
use Rattle.std.proofs.Common.{◌≡◌, refl}
use Rattle.std.specs.Prelude.{Result, Ok, Err}
use Rattle.part.specs.Outcome.{and_then}

pub both_passed : {A B E : Type 0} (a : Result A E) {next : A → Result B E} {y : B} → and_then a next ≡ Ok y → (x : A) × ((a ≡ Ok x) × (next x ≡ Ok y))
both_passed (Ok x) h = (x, (refl, h))
both_passed (Err why) h = cc

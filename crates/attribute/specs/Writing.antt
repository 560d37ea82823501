-- docs/FORMAT.md, "Writing": the bytes of an attribute.
use Rattle.std.specs.Prelude.{ℕ, List, [], ◌∷◌, ◌++◌, Result, Ok, Err, ltb, length, if◌then◌else◌}
use Rattle.part.specs.Outcome.{and_then}
use Rattle.refusal.specs.declared.Refusal.{Refusal}
use Rattle.refusal.specs.declared.Refusal.TheVariants.{TooLong}
use Rattle.attribute.specs.Told.{Told}

unfoldable pub attribute_bytes : Told → List ℕ
attribute_bytes a = length a.name ∷ length a.value ∷ (a.name ++ (0 ∷ (a.value ++ (0 ∷ []))))

-- refusal 7 for a length that its byte does not hold
abbrev pub length_checked : ℕ → Result Unit Refusal
length_checked actual = if ltb 255 actual then Err (TooLong 255 actual) else Ok tt

-- for the name, then for the value
unfoldable pub lengths_checked : Told → Result Unit Refusal
lengths_checked a = and_then (length_checked (length a.name)) (λ _. length_checked (length a.value))

unfoldable pub attribute_writing : Told → Result (List ℕ) Refusal
attribute_writing a = and_then (lengths_checked a) (λ _. Ok (attribute_bytes a))

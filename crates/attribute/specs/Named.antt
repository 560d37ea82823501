-- docs/FORMAT.md, "Attributes". What is told of an attribute that is asked for by its name.
use Rattle.std.specs.Prelude.{ℕ, List, Result, Ok, ok_or, find, nat_eq}
use Rattle.std.specs.Cmp.Lexicographic.{pointwise}
use Rattle.part.specs.Outcome.{and_then}
use Rattle.refusal.specs.declared.Refusal.{Refusal}
use Rattle.refusal.specs.declared.Refusal.TheVariants.{NameNotFound}
use Rattle.attribute.specs.declared.AdsAttribute.{AdsAttribute}
use Rattle.attribute.specs.Attribute.{named}
use Rattle.attribute.specs.Told.{Told, told_of}

-- among some attributes the first with the name; where none has it, 13
abbrev pub told_named : List AdsAttribute → List ℕ → Result Told Refusal
told_named all name = and_then (named all name) (λ a. Ok (told_of a))

-- the same, among what some attributes tell
abbrev pub named_told : List Told → List ℕ → Result Told Refusal
named_told all name = ok_or (find (λ a. pointwise nat_eq a.name name) all) NameNotFound

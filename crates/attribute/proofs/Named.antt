-- What is found by a name among some attributes tells what is found by it among all that they tell.
use Rattle.std.proofs.Common.{ℕ, ◌≡◌, refl, Bool, true, false, List, [], ◌∷◌}
use Rattle.std.specs.Prelude.{nat_eq}
use Rattle.std.specs.Cmp.Lexicographic.{pointwise}
use Rattle.attribute.specs.declared.AdsAttribute.{AdsAttribute}
use Rattle.attribute.specs.Told.{told}
use Rattle.attribute.specs.Named.{told_named, named_told}

turn : (a : AdsAttribute) (all : List AdsAttribute) (name : List ℕ) (b : Bool) → pointwise nat_eq a.name.now name ≡ b → told_named all name ≡ named_told (told all) name
    → told_named (a ∷ all) name ≡ named_told (told (a ∷ all)) name
turn a all name true e h = simp e
turn a all name false e h = simp e h

pub named_tells : (all : List AdsAttribute) (name : List ℕ) → told_named all name ≡ named_told (told all) name
named_tells [] name = refl
named_tells (a ∷ all) name = turn a all name (pointwise nat_eq a.name.now name) refl (named_tells all name)

-- docs/FORMAT.md, "Attributes" and "Refusals": what an answer to a number means, and one to a name.
use Rattle.std.specs.Prelude.{ℕ, ◌≡◌, List, ◌∷◌, ◌++◌, Result, Ok, Err, length}
use Rattle.std.specs.List.{All}
use Rattle.refusal.specs.declared.Refusal.{Refusal}
use Rattle.refusal.specs.declared.Refusal.TheVariants.{NameNotFound}
use Rattle.refusal.specs.ByNumber.{IsNumbered}
use Rattle.attribute.specs.declared.AdsAttribute.{AdsAttribute}
use Rattle.attribute.specs.Attribute.{numbered, named}

-- by number
abbrev pub AttributesShown : Type 0
AttributesShown = (all : List AdsAttribute) (number : ℕ) → IsNumbered all number (numbered all (length all) number)

abbrev pub NoneNamed : List ℕ → List AdsAttribute → Type 0
NoneNamed name = All (λ a. a.name.now ≡ name → ⊥)

-- by name: the first attribute whose name has these bytes; 13 where none has it
pub data FirstNamed (all : List AdsAttribute) (name : List ℕ) (answer : Result AdsAttribute Refusal) : Type 0 where
  found : (before behind : List AdsAttribute) (a : AdsAttribute) → all ≡ before ++ (a ∷ behind) → answer ≡ Ok a → a.name.now ≡ name → NoneNamed name before → FirstNamed all name answer
  nowhere : answer ≡ Err NameNotFound → NoneNamed name all → FirstNamed all name answer

abbrev pub AttributesNamed : Type 0
AttributesNamed = (all : List AdsAttribute) (name : List ℕ) → FirstNamed all name (named all name)

-- a question has one answer
abbrev pub OneNamed : Type 0
OneNamed = (all : List AdsAttribute) (name : List ℕ) (x y : Result AdsAttribute Refusal) → FirstNamed all name x → FirstNamed all name y → x ≡ y

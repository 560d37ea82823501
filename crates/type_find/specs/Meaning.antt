-- docs/FORMAT.md, "Finding". What finding a data type means, in a mode: what finding of any kind of entry means, of data types.
use Rattle.std.specs.Prelude.{ℕ, List, Result}
use Rattle.std.specs.Borrow.{Bor}
use Rattle.refusal.specs.declared.Mode.{Mode}
use Rattle.refusal.specs.declared.Refusal.{Refusal}
use Rattle.data_type.specs.DataType.{type_of}
use Rattle.name_find.specs.Meaning as any
use Rattle.type_find.specs.Find.{own_name, find, find_indexed}

-- a data type of that name begins at a place
abbrev pub HasName : Mode → Bor (List ℕ) → List ℕ → ℕ → Type 0
HasName = any.HasName 42 type_of (λ r. r.field.length) own_name

-- none of some places has it
abbrev pub Nowhere : Mode → Bor (List ℕ) → List ℕ → List ℕ → Type 0
Nowhere = any.Nowhere 42 type_of (λ r. r.field.length) own_name

-- a place is one of some places, has the name, and none before it has
abbrev pub Finds : Mode → Bor (List ℕ) → List ℕ → List ℕ → ℕ → Type 0
Finds = any.Finds 42 type_of (λ r. r.field.length) own_name

-- what finding means, without an index and through one
module _ (walked : Mode → Bor (List ℕ) → List ℕ → Result ℕ Refusal) (indexed : Mode → Bor (List ℕ) → List ℕ → List ℕ → Result ℕ Refusal) where
  abbrev pub FoundIsFirst : Type 0
  FoundIsFirst = any.FoundIsFirst 42 type_of (λ r. r.field.length) own_name walked indexed

  abbrev pub RefusedIsNowhere : Type 0
  RefusedIsNowhere = any.RefusedIsNowhere 42 type_of (λ r. r.field.length) own_name walked indexed

  abbrev pub FindMeant : Type 0
  FindMeant = any.FindMeant 42 type_of (λ r. r.field.length) own_name walked indexed

  -- a name in any case is found as in any other, without an index and through any slots
  abbrev pub AnyCase : Type 0
  AnyCase = any.AnyCase walked indexed

-- useless finding is not so
abbrev pub UselessShutOut : Type 0
UselessShutOut = any.UselessShutOut 42 type_of (λ r. r.field.length) own_name

-- through an index that was built a name is found as without one
abbrev pub SameFind : Type 0
SameFind = any.SameFind find find_indexed type_of

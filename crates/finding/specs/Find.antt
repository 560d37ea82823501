-- docs/FORMAT.md, "The command's text". What `find` answers: the first entry of a name and its place, and the value of an attribute.
use Rattle.std.specs.Prelude.{ℕ, List, [], ◌++◌, codes, decimal, Option, Some, None, Result, Ok, Err}
use Rattle.part.specs.Outcome.{outcome, and_then}
use Rattle.wording.specs.Text.{exact}
use Rattle.std.specs.Borrow.{Bor}
use Rattle.refusal.specs.declared.Mode.{Mode}
use Rattle.refusal.specs.declared.Refusal.{Refusal}
use Rattle.refusal.specs.declared.Refusal.TheVariants.{NameNotFound}
use Rattle.attribute.specs.declared.AdsAttribute.{AdsAttribute}
use Rattle.attribute.specs.Attribute as attribute
use Rattle.symbol.specs.declared.AdsSymbolInfo.{AdsSymbolInfo}
use Rattle.walk.specs.Step.{step_at}
use Rattle.name_find.specs.Find.{find}
use Rattle.report.specs.declared.Upload.{Upload}
use Rattle.finding.specs.declared.Found.{Found}

abbrev pub entry_at : {R : Type 0} → ℕ → Option (Result R Refusal) → Result (Found R) Refusal
entry_at at (Some (Ok r)) = Ok (record { at = at; entry = r })
entry_at at (Some (Err why)) = Err NameNotFound
entry_at at None = Err NameNotFound

-- the first entry of a name, as the step of the walk at its place gives it: by the name that a record carries, and what reading an entry's own bytes gives
unfoldable pub named : {R : Type 0} → (R → List ℕ) → (Mode → Bor (List ℕ) → Result R Refusal) → Upload → List ℕ → Result (Found R) Refusal
named name_of read u name = and_then (find name_of (read u.mode) u.bytes name) (λ at. entry_at at (step_at (read u.mode) u.bytes at).answer)

-- the first attribute of a name
abbrev pub value : Found AdsSymbolInfo → List ℕ → Result AdsAttribute Refusal
value f name = attribute.named (attribute.left f.entry.attributes) name

abbrev pub place_text : Found AdsSymbolInfo → List ℕ
place_text f = decimal f.at ++ (codes " " ++ (exact f.entry.type_name.now ++ codes "\n"))

abbrev pub value_text : AdsAttribute → List ℕ
value_text a = exact a.value.now ++ codes "\n"

unfoldable pub attribute_text : Found AdsSymbolInfo → List ℕ → List ℕ
attribute_text f name = outcome (value f name) value_text (λ why. [])

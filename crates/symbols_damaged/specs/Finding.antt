-- docs/FORMAT.md, "One bad entry" and "Finding". What is found of an upload of symbols where another differs from it inside some entries: as of any kind of entry, and attributes.
use Rattle.std.specs.Prelude.{ℕ, List, Option, Some, None, Result, Ok, Err}
use Rattle.std.specs.Borrow.{Bor}
use Rattle.refusal.specs.declared.Mode.{Mode}
use Rattle.refusal.specs.declared.Refusal.{Refusal}
use Rattle.walk.specs.Step.{step_at}
use Rattle.walk.specs.Theorems.{cursor_of}
use Rattle.damage.specs.Stays.{StepsStay}
use Rattle.damage.specs.Theorems.{Anywhere}
use Rattle.attribute.specs.Attribute.{listed}
use Rattle.attribute.specs.Named.{told_named}
use Rattle.attribute.specs.Told as attributes
use Rattle.symbol.specs.declared.AdsSymbolInfo.{AdsSymbolInfo}
use Rattle.symbol.specs.Symbol.{symbol_of}
use Rattle.symbol.specs.Told.{told_of}
use Rattle.named.specs.Kinds.{symbol_places}
use Rattle.symbol_find.specs.Find.{own_name}
use Rattle.names_damaged.specs.Finding as any

-- of a name that no entry which differs has, in neither version: without an index, through one, and by halving
abbrev pub FindingStays :
    (Mode → Bor (List ℕ) → List ℕ → Result ℕ Refusal) → (Mode → Bor (List ℕ) → List ℕ → List ℕ → Result ℕ Refusal)
    → (Mode → Bor (List ℕ) → List ℕ → List ℕ → Result ℕ Refusal → Type 0) → Type 0
FindingStays = any.FindingStays 30 symbol_places symbol_of (λ symbol. symbol.length) own_name told_of

-- what a step tells of a symbol's attribute of some name: its name and value, or 13
abbrev pub attribute_told : List ℕ → Option (Result AdsSymbolInfo Refusal) → Option (Result attributes.Told Refusal)
attribute_told name None = None
attribute_told name (Some (Err why)) = None
attribute_told name (Some (Ok symbol)) = Some (told_named (listed symbol.attributes.bytes symbol.attributes.count) name)

-- each step but those at the entries that differ tells the same of its symbol's attribute of any name
abbrev pub AttributesStay : Type 0
AttributesStay = (mode : Mode) (name : List ℕ) → Anywhere (StepsStay (step_at (symbol_of mode)) cursor_of (λ t. attribute_told name t.answer))

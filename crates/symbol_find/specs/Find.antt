-- Finding a symbol by its name, in a mode (docs/FORMAT.md, "Finding"): finding of any kind of entry, of symbols.
use Rattle.std.specs.Prelude.{ℕ, Bool, List, Option, Result}
use Rattle.std.specs.Borrow.{Bor}
use Rattle.refusal.specs.declared.Mode.{Mode}
use Rattle.refusal.specs.declared.Refusal.{Refusal}
use Rattle.symbol.specs.declared.AdsSymbolInfo.{AdsSymbolInfo}
use Rattle.symbol.specs.Symbol.{symbol_of}
use Rattle.name_find.specs.Find as any

-- the name that it carries
abbrev pub own_name : AdsSymbolInfo → List ℕ
own_name symbol = symbol.name.now

abbrev pub has_name : List ℕ → Option (Result AdsSymbolInfo Refusal) → Bool
has_name = any.has_name own_name

-- a step of the walk from here gives a symbol of that name
abbrev pub is_named : Mode → Bor (List ℕ) → List ℕ → ℕ → Bool
is_named mode = any.is_named own_name (symbol_of mode)

-- without an index
abbrev pub find : Mode → Bor (List ℕ) → List ℕ → Result ℕ Refusal
find mode = any.find own_name (symbol_of mode)

-- through an index
abbrev pub find_indexed : Mode → Bor (List ℕ) → List ℕ → List ℕ → Result ℕ Refusal
find_indexed mode = any.find_indexed own_name (symbol_of mode)

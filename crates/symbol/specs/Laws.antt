-- docs/FORMAT.md, "Symbol entries": what the definitions of a symbol mean together.
use Rattle.std.specs.Prelude.{ℕ, ◌≡◌, List, Ok, length}
use Rattle.std.specs.Borrow.{Bor}
use Rattle.refusal.specs.declared.Mode.{Mode}
use Rattle.attribute.specs.Attribute as attribute
use Rattle.refactor.specs.Refactor as refactor
use Rattle.symbol.specs.declared.AdsSymbolInfo.{AdsSymbolInfo}
use Rattle.symbol.specs.Symbol.{IsWithin, symbol_of}

-- a symbol that is accepted, in whatever mode, lies in its entry, and its lists have as many attributes and refactor records as they count: none of these is refused by its number
pub record IsWhole (e : Bor (List ℕ)) (r : AdsSymbolInfo) : Type 0 where
  pub within : IsWithin e r
  pub counted : length (attribute.listed r.attributes.bytes r.attributes.count) ≡ r.attributes.count
  pub refactors_counted : length (refactor.listed r.refactor_infos.bytes r.refactor_infos.count) ≡ r.refactor_infos.count

abbrev pub SymbolsWhole : Type 0
SymbolsWhole = (mode : Mode) (e : Bor (List ℕ)) (r : AdsSymbolInfo) → symbol_of mode e ≡ Ok r → IsWhole e r

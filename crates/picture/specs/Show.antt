-- docs/FORMAT.md, "The command's text": all that `show` writes of a symbol that was found.
use Rattle.std.specs.Prelude.{ℕ, Bool, List, [], ◌++◌, codes, length}
use Rattle.std.specs.Borrow.{Bor}
use Rattle.part.specs.Outcome.{outcome}
use Rattle.symbol.specs.declared.AdsSymbolInfo.{AdsSymbolInfo}
use Rattle.sections.specs.Sections.{sections_of}
use Rattle.why.specs.Reasons.{explained}
use Rattle.facts.specs.Facts.{facts_text}
use Rattle.picture.specs.Rows.{picture_text}

-- what it tells, with the reasons of its entry's own bytes, an empty line, and the picture of these bytes
unfoldable pub show_text : Bool → ℕ → Bor (List ℕ) → AdsSymbolInfo → List ℕ
show_text coloured at own s =
    outcome (explained own) (λ why. facts_text at s why ++ (codes "\n" ++ picture_text coloured (length own.now) (sections_of own s))) (λ why. [])

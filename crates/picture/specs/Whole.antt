-- docs/FORMAT.md, "The command's text" and "Why": all that `show` writes of a symbol that was found, with the reasons that are true of its entry.
use Rattle.std.specs.Prelude.{ℕ, ◌≡◌, Bool, List, ◌++◌, codes, length, take, Ok}
use Rattle.std.specs.Borrow.{Bor}
use Rattle.le.specs.Le.{le4}
use Rattle.refusal.specs.declared.Mode.{Mode}
use Rattle.walk.specs.Step.{parse_of}
use Rattle.symbol.specs.Symbol.{symbol_of}
use Rattle.symbol.specs.declared.AdsSymbolInfo.{AdsSymbolInfo}
use Rattle.sections.specs.Sections.{sections_of}
use Rattle.why.specs.declared.Reasons.{Reasons}
use Rattle.why.specs.Meant.{AreTrue}
use Rattle.facts.specs.Facts.{facts_text}
use Rattle.picture.specs.Rows.{picture_text}
use Rattle.picture.specs.Show.{show_text}

-- the facts, an empty line, and the picture of all own bytes
pub record IsShown (at : ℕ) (own : Bor (List ℕ)) (s : AdsSymbolInfo) : Type 0 where
  pub reasons : Reasons
  pub are_true : AreTrue (take (le4 own.now 0) own.now) reasons
  pub text : (coloured : Bool) → show_text coloured at own s ≡ facts_text at s reasons ++ (codes "\n" ++ picture_text coloured (length own.now) (sections_of own s))

-- whatever the mode
abbrev pub ShowMeant : Type 0
ShowMeant = (mode : Mode) (at : ℕ) (own : Bor (List ℕ)) (s : AdsSymbolInfo) → parse_of 30 (symbol_of mode) own ≡ Ok s → IsShown at own s

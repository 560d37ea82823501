-- A symbol in the two modes: proved.
use Rattle.std.proofs.Common.{ℕ, ◌≡◌, refl, ap, ◌∙◌, List, Ok, Err, Result, Bor}
use Rattle.part.specs.Outcome.{and_then}
use Rattle.refusal.specs.declared.Mode.TheVariants.{Present, Checked}
use Rattle.refusal.specs.declared.Refusal.{Refusal}
use Rattle.attribute.proofs.Modes.{tested, in_modes}
use Rattle.symbol.specs.declared.AdsSymbolInfo.{AdsSymbolInfo}
use Rattle.symbol.specs.Symbol.{symbol_ended, symbol_of}
use Rattle.symbol.specs.Modes.{end_bytes, SymbolsModes}
use Rattle.symbol.proofs.Laws.{checked_is}
use Rattle.symbol.proofs.Lies.{symbols_inside}
use Rattle.symbol.proofs.Ends.{symbol_ends}

-- what is tested of a symbol that the present mode accepts are its end bytes
tests_are : (e : Bor (List ℕ)) (t : Result AdsSymbolInfo Refusal) → symbol_of Present e ≡ t → and_then t (λ q. and_then (symbol_ended e q) (λ _. Ok q)) ≡ and_then t (tested (end_bytes e))
tests_are e (Ok r) h = ap (λ (t : Result Unit Refusal). and_then t (λ _. Ok r)) (symbol_ends e r (symbols_inside Present e r h))
tests_are e (Err why) h = refl

pub symbols_modes : SymbolsModes
symbols_modes e = in_modes (end_bytes e) (symbol_of Checked e) (symbol_of Present e) (checked_is e ∙ tests_are e (symbol_of Present e) refl)

-- A plain entry is accepted in the checked mode too: proved.
use Rattle.std.proofs.Common.{ℕ, ◌≡◌, refl, sym, ap, ◌∙◌, List, [], Ok, Err, Result, Bor}
use Rattle.refusal.specs.declared.Refusal.{Refusal}
use Rattle.refusal.specs.declared.Mode.TheVariants.{Present, Checked}
use Rattle.walk.specs.Mapped.{map_ok}
use Rattle.symbol.specs.declared.AdsSymbolInfo.{AdsSymbolInfo}
use Rattle.symbol.specs.Symbol.{symbol_of}
use Rattle.symbol.specs.Told.{Told, told_of, meant}
use Rattle.symbol.specs.Again.{new_of}
use Rattle.symbol.proofs.Modes.{symbols_modes}
use Rattle.plain.specs.Meaning.{PlainChecked}
use Rattle.plain.proofs.Read.{read_again}

module _ (e : Bor (List ℕ)) (r : AdsSymbolInfo) (read : symbol_of Present e ≡ Ok r) (t : Told) where
  accepted : (w : Result AdsSymbolInfo Refusal) → symbol_of Checked e ≡ w → map_ok told_of w ≡ Ok t → symbol_of Checked e ≡ Ok r
  accepted (Ok q) h m =
      let here : symbol_of Present e ≡ Ok q = ((symbols_modes e).ended q h).0 in
      let same : q ≡ r = let z = sym here ∙ read in cc in
      h ∙ ap Ok same
  accepted (Err why) h m = cc

pub plain_checked : PlainChecked
plain_checked e r h read w = accepted e r read (meant (new_of r) []) (symbol_of Checked e) refl (read_again e r h read w Checked)

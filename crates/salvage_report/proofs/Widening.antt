-- Columns are made wide enough for one piece after another.
use Rattle.std.proofs.Common.{◌≡◌, List, [], ◌∷◌, sym, ap, ◌∙◌}
use Rattle.walk.specs.declared.Piece.{Piece}
use Rattle.symbol.specs.declared.AdsSymbolInfo.{AdsSymbolInfo}
use Rattle.salvage_report.specs.declared.Widths.{Widths}
use Rattle.salvage_report.specs.Runs.{fitted, fitted_on, widths_of, headings}

pub fitted_more : {left rest : List (Piece AdsSymbolInfo)} {p : Piece AdsSymbolInfo} (w : Widths) {v e : Widths}
    → left ≡ p ∷ rest → v ≡ fitted w p → fitted_on w left ≡ e → fitted_on v rest ≡ e
unfolding fitted_on
fitted_more {left} {rest} {p} w {v} {e} s n h = ap (λ (x : Widths). fitted_on x rest) n ∙ ap (fitted_on w) (sym s) ∙ h

pub fitted_all : {left all ps : List (Piece AdsSymbolInfo)} {w v : Widths}
    → left ≡ [] → fitted_on w left ≡ fitted_on v all → v ≡ headings → all ≡ ps → w ≡ widths_of ps
unfolding fitted_on
fitted_all {left} {all} {ps} {w} {v} s h n a = ap (fitted_on w) (sym s) ∙ h ∙ ap (λ (x : Widths). fitted_on x all) n ∙ ap (fitted_on headings) a

-- Columns are made wide enough for one entry after another.
use Rattle.std.proofs.Common.{◌≡◌, List, [], ◌∷◌, sym, ap, ◌∙◌}
use Rattle.walk.specs.declared.Piece.{Piece}
use Rattle.symbol.specs.declared.AdsSymbolInfo.{AdsSymbolInfo}
use Rattle.report.specs.declared.table.Columns.{Columns}
use Rattle.report.specs.Table.{fitted, fitted_on, columns_of, headings}

pub fitted_more : {left rest : List (Piece AdsSymbolInfo)} {p : Piece AdsSymbolInfo} (c : Columns) {d e : Columns}
    → left ≡ p ∷ rest → d ≡ fitted c p → fitted_on c left ≡ e → fitted_on d rest ≡ e
unfolding fitted_on
fitted_more {left} {rest} {p} c {d} {e} s n h = ap (λ (x : Columns). fitted_on x rest) n ∙ ap (fitted_on c) (sym s) ∙ h

pub fitted_all : {left all ps : List (Piece AdsSymbolInfo)} {c d : Columns}
    → left ≡ [] → fitted_on c left ≡ fitted_on d all → d ≡ headings → all ≡ ps → c ≡ columns_of ps
unfolding fitted_on
fitted_all {left} {all} {ps} {c} {d} s h n a = ap (fitted_on c) (sym s) ∙ h ∙ ap (λ (x : Columns). fitted_on x all) n ∙ ap (fitted_on headings) a

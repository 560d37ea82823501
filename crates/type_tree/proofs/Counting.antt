-- What is counted piece by piece.
use Rattle.std.proofs.Common.{◌≡◌, List, [], ◌∷◌, sym, ap, ◌∙◌}
use Rattle.walk.specs.declared.Piece.{Piece}
use Rattle.data_type.specs.declared.AdsDataTypeInfo.{AdsDataTypeInfo}
use Rattle.type_tree.specs.declared.Counts.{Counts}
use Rattle.type_tree.specs.Counts.{counted, counted_on, counts_of, none_counted}

pub counted_more : {left rest : List (Piece AdsDataTypeInfo)} {p : Piece AdsDataTypeInfo} (t : Counts) {u v : Counts}
    → left ≡ p ∷ rest → u ≡ counted t p.answer → counted_on t left ≡ v → counted_on u rest ≡ v
unfolding counted_on
counted_more {left} {rest} {p} t {u} {v} e n h = ap (λ (x : Counts). counted_on x rest) n ∙ ap (counted_on t) (sym e) ∙ h

pub counted_all : {left all ps : List (Piece AdsDataTypeInfo)} {t u : Counts}
    → left ≡ [] → counted_on t left ≡ counted_on u all → u ≡ none_counted → all ≡ ps → t ≡ counts_of ps
unfolding counted_on
counted_all {left} {all} {ps} {t} {u} e h n a = ap (counted_on t) (sym e) ∙ h ∙ ap (λ (x : Counts). counted_on x all) n ∙ ap (counted_on none_counted) a

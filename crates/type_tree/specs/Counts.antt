-- docs/FORMAT.md, "The command's text": how many entries there are, and how many were refused.
use Rattle.std.specs.Prelude.{List, [], ◌∷◌, Result, is_err, if◌then◌else◌}
use Rattle.refusal.specs.declared.Refusal.{Refusal}
use Rattle.walk.specs.declared.Piece.{Piece}
use Rattle.data_type.specs.declared.AdsDataTypeInfo.{AdsDataTypeInfo}
use Rattle.report.specs.Report.{plus}
use Rattle.type_tree.specs.declared.Counts.{Counts}

abbrev pub none_counted : Counts
none_counted = record { all = 0; refused = 0 }

unfoldable pub counted : Counts → Result AdsDataTypeInfo Refusal → Counts
counted c answer = record { all = plus c.all 1; refused = if is_err answer then plus c.refused 1 else c.refused }

unfoldable pub counted_on : Counts → List (Piece AdsDataTypeInfo) → Counts
counted_on c [] = c
counted_on c (p ∷ ps) = counted_on (counted c p.answer) ps

abbrev pub counts_of : List (Piece AdsDataTypeInfo) → Counts
counts_of ps = counted_on none_counted ps

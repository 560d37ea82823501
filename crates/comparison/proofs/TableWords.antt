-- The lines of the table word for word, and where there is none: proved.
use Rattle.std.proofs.Common.{refl}
use Rattle.std.specs.Fmt.{digits}
use Rattle.wording.specs.Wording.{bytes, figure, grouped, grouped_by, many, refusal_text}
use Rattle.report.specs.Cells.{number_cell}
use Rattle.sections.specs.Parts.{part_text}
use Rattle.values.specs.Shown.{value_text}
use Rattle.comparison.specs.Table.{headings_text, line_text}
use Rattle.comparison.specs.TableMeant.{TableMeant}
use Rattle.comparison.proofs.Untold.{all_stay, nothing}
use Rattle.comparison.proofs.Wide.{headings_stand, wide_enough}

pub table_meant : TableMeant
unfolding line_text headings_text number_cell digits grouped grouped_by many bytes figure refusal_text part_text value_text
table_meant = record {
  headings = refl;
  differs = refl;
  refused = refl;
  only_in_a = refl;
  only_in_b = λ s. refl;
  later = refl;
  earlier = refl;
  back = refl;
  all_stay = all_stay;
  nothing = nothing;
  headings_stand = headings_stand;
  stand = wide_enough;
}

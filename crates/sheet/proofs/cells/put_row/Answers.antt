use Rattle.le.proofs.Laws.{after}
use Rattle.sheet.specs.Cells.{row_text}
use Rattle.sheet.proofs.cells.put_row.Goals as goal

pub returns : goal.returns
unfolding row_text
returns c = after c.put_numbers-strings.ensures c.put_strings.ensures

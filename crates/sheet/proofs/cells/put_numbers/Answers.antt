use Rattle.le.proofs.Laws.{after}
use Rattle.sheet.specs.Cells.{numbers_text}
use Rattle.sheet.proofs.cells.put_numbers.Goals as goal

pub returns : goal.returns
unfolding numbers_text
returns c =
    after c.put_number-a.ensures
    (after c.put_number-b.ensures
    (after c.put_number-c.ensures (after c.put_number-d.ensures (after c.put_number-e.ensures c.put_number.ensures))))

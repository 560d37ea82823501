use Rattle.le.proofs.Laws.{after}
use Rattle.sheet.specs.Cells.{strings_text}
use Rattle.sheet.proofs.cells.put_strings.Goals as goal

pub returns : goal.returns
unfolding strings_text
returns c =
    after c.put_cell-a.ensures
    (after c.put_u8-b.ensures
    (after c.put_cell-c.ensures (after c.put_u8-d.ensures (after c.put_cell-e.ensures c.put_bytes.ensures))))

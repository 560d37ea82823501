use Rattle.le.proofs.Laws.{after}
use Rattle.field.specs.Writing.{numbers_bytes}
use Rattle.field.proofs.writer.put_numbers.Goals as goal

pub returns : goal.returns
unfolding numbers_bytes
returns c =
    after c.put_u32-a.ensures
    (after c.put_u32-b.ensures
    (after c.put_u32-c.ensures (after c.put_u32-d.ensures (after c.put_u32-e.ensures (after c.put_u32-f.ensures c.put_u32.ensures)))))

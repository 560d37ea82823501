use Rattle.le.proofs.Laws.{after}
use Rattle.sheet_import.specs.Import.{numbers_bytes}
use Rattle.sheet_import.proofs.put_numbers.Goals as goal

pub returns : goal.returns
unfolding numbers_bytes
returns c =
    after c.put_u32-a.ensures
    (after c.put_u32-b.ensures
    (after c.put_u32-c.ensures (after c.put_u32-d.ensures (after c.put_u16-e.ensures c.put_u16.ensures))))

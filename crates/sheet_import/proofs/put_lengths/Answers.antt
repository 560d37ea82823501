use Rattle.le.proofs.Laws.{after}
use Rattle.sheet_import.proofs.put_lengths.Goals as goal

pub returns : goal.returns
returns c = after c.put_u16-a.ensures (after c.put_u16-b.ensures c.put_u16.ensures)
